-- Cable by kind on a deck, from the claim on contents: the questions and the listing of a sound deck are those of its contents.
use mathlib.Core.Path.{sym, ap, ◌∙◌}
use mathlib.Core.List.{List, ◌++◌}
use Prim.Native.Nat.{ℕ, ◌+◌}
use Rattle.model.specs.Contents.{Contents}
use Rattle.model.specs.Question.{listed, pin_count, steiner_count}
use Rattle.model.specs.Listing.{deck_word, numbers_line, kinds_line, tap_lines, run_lines, listing}
use Rattle.model.proofs.KindLength.{kind_lengths_lem}
use Rattle.questions.specs.declared.Answer.TheVariants as question
use Rattle.questions.specs.Answers.{of_length, of_kinds}
use Rattle.deck.specs.declared.Deck.{Deck}
use Rattle.deck.specs.Form.{contents_of, Sound}
use Rattle.listing.proofs.Text.{text-sound}
use Rattle.demands.specs.KindLengths.{DeckLengths}
use Rattle.demands.proofs.Method.{passes, answered}

-- The listing with another number for the length.
abbrev text_with : Contents → ℕ → List ℕ
text_with c n =
    let s = c.state in
    numbers_line deck_word (pin_count s) (steiner_count s) n ++ (kinds_line c ++ (tap_lines s.steiner ++ run_lines c.tail (listed s)))

pub deck-lengths : (d : Deck) → Sound d → DeckLengths d
unfolding listing
deck-lengths d s =
    let claims = kind_lengths_lem (contents_of d) s.valid in
    record {
      of_runs = claims;
      answered = answered d s of_kinds;
      sum = answered d s of_length ∙ ap question.Length (sym claims.sum);
      text = sym (text-sound d (passes d s)) ∙ ap (text_with (contents_of d)) (sym claims.sum);
    }
