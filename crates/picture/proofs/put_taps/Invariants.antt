-- `picture::put_taps`: the symbols of the Steiner points passed are put.
use lib.ListN.{length}
use Rattle.arrays.proofs.paste.Lines.{PutFirst, each_to}
use Rattle.frame.specs.Stored.{box_in}
use Rattle.drawing.specs.Rooms.{symbol_room}
use Rattle.picture.specs.Picture.{tap_text}
use Rattle.picture.proofs.put_taps.Given as goal

abbrev pub invariant-loop-k : goal.invariant-loop-k
invariant-loop-k l = PutFirst (each_to (tap_text (box_in l.f)) l.codes) symbol_room (length l.codes) l.initial.out l.out l.at l.next l.k-index
