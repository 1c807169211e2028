-- What the program keeps of a text of coordinates, and what stands for it.
use Rattle.std.specs.Prelude.{◌≡◌, ℕ, Option, None, Some}
use Rattle.model.specs.Contents.{ValidContents}
use Rattle.working.specs.InOrder.{InOrder}
use Rattle.working.specs.WorkingDeck.{contents_of}
use Rattle.calls.specs.declared.Reply.{Reply}
use Rattle.calls.specs.declared.Reply.TheVariants as reply
use Rattle.packing.specs.declared.Fault.{Fault}
use Rattle.packing.specs.declared.Fault.TheVariants.{Refused}
use Rattle.packing.specs.declared.Packing.{Packing}
use Rattle.packing.specs.Packing.{Packed}

-- The fault of line n, by the reply as the program's enum.
abbrev pub fault_by : ℕ → Reply → Option Fault
fault_by n reply.Done = None
fault_by n (reply.Refused m) = Some (Refused n m)
fault_by n reply.Finished = None
fault_by n (reply.Tap x y fall) = None
fault_by n (reply.Rounds m) = None

-- What the program keeps.
abbrev pub pack_of : Packing → Packed
pack_of p = record { contents = contents_of p.deck; lines = p.lines; fault = p.fault }

-- Its deck is in order, and valid.
pub record Packs (p : Packing) : Type 0 where
  pub in_order : InOrder p.deck.form
  pub valid : ValidContents (contents_of p.deck)

-- It is so, and stands for q.
pub record PacksAs (p : Packing) (q : Packed) : Type 0 where
  pub packs : Packs p
  pub is : pack_of p ≡ q
