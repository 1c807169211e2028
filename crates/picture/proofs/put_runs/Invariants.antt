-- `picture::put_runs`: the paths of the runs passed are put.
use Rattle.arrays.proofs.paste.Lines.{PutFirst}
use Rattle.working.specs.InOrder.{state_of}
use Rattle.frame.specs.Stored.{box_in}
use Rattle.drawing.specs.Rooms.{run_room}
use Rattle.picture.proofs.Texts.{runs_to}
use Rattle.picture.proofs.put_runs.Given as goal

abbrev pub invariant-loop-i : goal.invariant-loop-i
invariant-loop-i l = PutFirst (runs_to l.tail (box_in l.f) (state_of l.w)) run_room l.w.nkeys l.initial.out l.out l.at l.next l.i
