-- What the calls on a deck answer, by the model.
use Rattle.std.specs.Prelude.{ℕ}
use Rattle.arrays.specs.Test.{if}
use Rattle.model.specs.Call as call
use Rattle.working.specs.WorkingDeck as workingDeck
use Rattle.calls.specs.declared.Changed.{Changed}
use Rattle.calls.specs.declared.Reply.TheVariants.{Refused}
use Rattle.calls.specs.Changes.{reply_of}
use Rattle.deck.specs.declared.Deck.{Deck}
use Rattle.deck.specs.declared.Outcome.{Outcome}
use Rattle.deck.specs.Form.{deck_of, contents_of, sound}

-- An outcome of the model as the program's.
unfoldable pub deck_outcome : call.Outcome → Outcome
deck_outcome o = record { next = deck_of o.next; reply = reply_of o.reply }

-- A call that changed a deck in working form, as an outcome.
abbrev pub outcome_of : Changed → Outcome
outcome_of c = record { next = deck_of (workingDeck.contents_of c.working); reply = c.reply }

-- A refusal hands back the deck unchanged (SPEC 8.1).
abbrev pub refused_outcome : Deck → ℕ → Outcome
refused_outcome d n = record { next = d; reply = Refused n }

-- A call on any deck at all (SPEC 4, 8.3): refused by 11 where it is not sound, else what the model says of its contents.
unfoldable pub called : Deck → call.Call → Outcome
called d c = if (sound d) (λ _. deck_outcome (call.step (contents_of d) c)) (λ _. refused_outcome d 11)
