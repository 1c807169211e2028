-- What the calls on a deck in working form leave and reply, by the model.
use Rattle.std.specs.Prelude.{◌≡◌, ℕ}
use Rattle.model.specs.Round.{finished, tap}
use Rattle.model.specs.Call as call
use Rattle.working.specs.declared.deck.WorkingDeck.{WorkingDeck}
use Rattle.working.specs.InOrder.{InOrder}
use Rattle.working.specs.WorkingDeck.{contents_of}
use Rattle.calls.specs.declared.Changed.{Changed}
use Rattle.calls.specs.declared.Reply.{Reply}
use Rattle.calls.specs.declared.Reply.TheVariants.{Done, Refused, Finished, Tap, Rounds}

-- What the model replies, as the program's enum: done, a refusal by its number, a round's answer, or a number of rounds (SPEC 4, 8.3).
unfoldable pub reply_of : call.Reply → Reply
reply_of call.done = Done
reply_of (call.refused n) = Refused n
reply_of (call.answered finished) = Finished
reply_of (call.answered (tap p fall)) = Tap p.x p.y fall
reply_of (call.rounds n) = Rounds n

-- The number of a refusal, and 0 for any other reply.
unfoldable pub refusal_number : Reply → ℕ
refusal_number Done = 0
refusal_number (Refused n) = n
refusal_number Finished = 0
refusal_number (Tap x y fall) = 0
refusal_number (Rounds n) = 0

-- A refusal hands back the deck it was given.
abbrev pub refusing : WorkingDeck → ℕ → Changed
refusing d n = record { working = d; reply = Refused n }

-- The deck in r follows from d by the call c: its form is in order, its contents are the model's next, and the reply is the model's.
pub record ChangedBy (d : WorkingDeck) (c : call.Call) (r : Changed) : Type 0 where
  pub in_order : InOrder r.working.form
  pub next : contents_of r.working ≡ (call.step (contents_of d) c).next
  pub reply : r.reply ≡ reply_of (call.step (contents_of d) c).reply
