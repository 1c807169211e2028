-- A question on a deck, from that on the deck in working form: refused by 11 where the deck is not sound, else the answer there.
use mathlib.Core.Path.{◌≡◌, sym, ap, ◌∙◌}
use mathlib.Core.Bool.{Bool, true, false}
use Rattle.arrays.specs.Test.{if}
use Rattle.working.specs.WorkingDeck as workingDeck
use Rattle.questions.specs.Answers.{Question, answer_to}
use Rattle.questions.specs.declared.Answer.TheVariants.{Refused}
use Rattle.deck.specs.declared.Deck.{Deck}
use Rattle.deck.specs.Check.{WorkingOf}
use Rattle.arrays.proofs.Test.{true_of}
use Rattle.working.specs.declared.deck.WorkingDeck.{WorkingDeck}
use Rattle.deck.specs.Form.{contents_of, sound}
use Rattle.deck.specs.Questions.{asked}
use Rattle.deck.proofs.Calls.{checked_sound}

-- A question by whether the deck is sound.
pub asked_unsound : (d : Deck) (q : Question) → sound d ≡ false → Refused 11 ≡ asked d q
unfolding asked
asked_unsound d q e = ap (λ (b : Bool). if b (λ _. answer_to q (contents_of d)) (λ _. Refused 11)) (sym e)

pub asked-sound : (d : Deck) (q : Question) → sound d ≡ true → answer_to q (contents_of d) ≡ asked d q
unfolding asked
asked-sound d q e = ap (λ (b : Bool). if b (λ _. answer_to q (contents_of d)) (λ _. Refused 11)) (sym e)

-- A question on the deck in working form is one on the deck.
pub asked_by : (d : Deck) (w : WorkingDeck) → WorkingOf (sound d) d w → (q : Question) → answer_to q (workingDeck.contents_of w) ≡ asked d q
asked_by d w k q = ap (answer_to q) (checked_sound d w k).1 ∙ asked-sound d q (true_of (sound d) k.holds)
