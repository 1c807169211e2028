-- `sections::codes::decode` meets its contract. The invariant: the codes of the points passed stand at the front, and all are in range.
use Rattle.sections.proofs.codes.InFront.{InFront}
use Rattle.sections.proofs.codes.decode.Given as goal

abbrev pub invariant-loop-i : goal.invariant-loop-i
invariant-loop-i g l = InFront g.row.N l.b l.out l.i
