-- `working::unpack` meets its contract. The invariant: the points of the codes passed are held.
use lib.ListN.{length}
use Rattle.working.proofs.Held.{Unpacked}
use Rattle.working.proofs.unpack.Given as goal

abbrev pub invariant-loop-i : goal.invariant-loop-i
invariant-loop-i l = Unpacked l.codes (length l.codes) l.initial.xs l.initial.ys l.xs l.ys l.i
