-- `picture::put_pins`: the symbols of the pins passed are put.
use lib.ListN.{length}
use Rattle.arrays.proofs.paste.Lines.{PutFirst}
use Rattle.frame.specs.Stored.{box_in}
use Rattle.drawing.specs.Rooms.{symbol_room}
use Rattle.picture.proofs.Texts.{symbols_to}
use Rattle.picture.proofs.put_pins.Given as goal

abbrev pub invariant-loop-kind : goal.invariant-loop-kind
invariant-loop-kind l =
    PutFirst (symbols_to (box_in l.f) l.kinds l.codes) symbol_room (length l.kinds) l.initial.out l.out l.at l.next (length l.yielded)
