-- A call on a deck, from that on the deck in working form: refused by 11 where the deck is not sound, else the outcome there.
use mathlib.Core.Path.{◌≡◌, sym, ap, ◌∙◌, subst⁻¹}
use mathlib.Core.Bool.{Bool, true, false}
use Rattle.arrays.specs.Test.{if}
use Rattle.model.specs.Contents.{Contents, ValidContents}
use Rattle.model.specs.Call as call
use Rattle.working.specs.declared.deck.WorkingDeck.{WorkingDeck}
use Rattle.working.specs.WorkingDeck as workingDeck
use Rattle.calls.specs.declared.Changed.{Changed}
use Rattle.calls.specs.Changes.{reply_of, ChangedBy}
use Rattle.deck.specs.declared.Deck.{Deck}
use Rattle.deck.specs.Check.{WorkingOf}
use Rattle.deck.specs.Form.{deck_of, contents_of, Sound, sound}
use Rattle.deck.specs.Calls.{deck_outcome, refused_outcome, called, outcome_of}
use Rattle.arrays.proofs.Test.{true_of}
use Rattle.deck.proofs.Form.{sound_is, same_contents}

-- What the check of a deck gives where it passed: the deck is sound, and the deck in working form stands for its contents.
pub checked_sound : (d : Deck) (w : WorkingDeck) → WorkingOf (sound d) d w → Sound d × (workingDeck.contents_of w ≡ contents_of d)
checked_sound d w k = ((sound_is d).0 k.holds, same_contents d w k.points k.kinds k.tail)

pub checked_valid : (d : Deck) (w : WorkingDeck) → WorkingOf (sound d) d w → ValidContents (workingDeck.contents_of w)
checked_valid d w k = let c = checked_sound d w k in subst⁻¹ ValidContents c.1 c.0.valid

-- A call by whether the deck is sound.
pub called_unsound : (d : Deck) (c : call.Call) → sound d ≡ false → refused_outcome d 11 ≡ called d c
unfolding called
called_unsound d c e = ap (λ (b : Bool). if b (λ _. deck_outcome (call.step (contents_of d) c)) (λ _. refused_outcome d 11)) (sym e)

pub called-sound : (d : Deck) (c : call.Call) → sound d ≡ true → deck_outcome (call.step (contents_of d) c) ≡ called d c
unfolding called
called-sound d c e = ap (λ (b : Bool). if b (λ _. deck_outcome (call.step (contents_of d) c)) (λ _. refused_outcome d 11)) (sym e)

-- A call on the deck in working form is one on the deck.
pub called_by : (d : Deck) (w : WorkingDeck) → WorkingOf (sound d) d w → (c : call.Call) (t : Changed) → ChangedBy w c t → outcome_of t ≡ called d c
unfolding deck_outcome
called_by d w k c t by =
    (λ i. record {
      next = deck_of ((by.next ∙ ap (λ (z : Contents). (call.step z c).next) same) i);
      reply = (by.reply ∙ ap (λ (z : Contents). reply_of (call.step z c).reply) same) i;
    })
    ∙ called-sound d c (true_of (sound d) k.holds)
  where
    same : workingDeck.contents_of w ≡ contents_of d
    same = (checked_sound d w k).1
