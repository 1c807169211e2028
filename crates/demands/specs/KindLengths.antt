-- Cable by the kind of device (SPEC 1.8, 4.6, 9.2), as claims on what a deck answers and on its listing.
use Rattle.std.specs.Prelude.{◌≡◌, ◌++◌, ℕ, ◌+◌}
use Rattle.model.specs.Question.{listed, pin_count, steiner_count}
use Rattle.model.specs.KindLength.{kind_length, KindLengths}
use Rattle.model.specs.Listing.{deck_word, kinds_word, numbers_line, tap_lines, run_lines}
use Rattle.questions.specs.declared.Answer.TheVariants as question
use Rattle.questions.specs.Answers.{of_length, of_kinds}
use Rattle.deck.specs.declared.Deck.{Deck}
use Rattle.deck.specs.Form.{contents_of, state_of}
use Rattle.deck.specs.Questions.{asked}
use Rattle.listing.specs.Whole.{deck_text}

-- The length of a kind.
abbrev pub length_of : Deck → ℕ → ℕ
length_of d k = kind_length (contents_of d) k

pub record DeckLengths (d : Deck) : Type 0 where
  -- each is the sum of the runs of its kind, and all runs count for one of the three
  pub of_runs : KindLengths (contents_of d)
  -- the question for them, and the question for the length, which is their sum
  pub answered : asked d of_kinds ≡ question.Kinds (length_of d 0) (length_of d 1) (length_of d 2)
  pub sum : asked d of_length ≡ question.Length (length_of d 0 + length_of d 1 + length_of d 2)
  -- the listing: the sum in its first line, the three in its second, and then the taps and the runs
  pub text : deck_text d
      ≡ numbers_line deck_word (pin_count (state_of d)) (steiner_count (state_of d)) (length_of d 0 + length_of d 1 + length_of d 2)
      ++ (numbers_line kinds_word (length_of d 0) (length_of d 1) (length_of d 2) ++ (tap_lines (state_of d).steiner ++ run_lines d.tail (listed (state_of d))))
