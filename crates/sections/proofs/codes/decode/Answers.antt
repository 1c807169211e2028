-- `sections::codes::decode` meets its contract. The invariant: the codes of the points passed stand at the front, and all are in range.
use native.Mathlib.Omega.{arith}
use Rattle.sections.proofs.codes.InFront.{out_of_range, one_more, all_there}
use Rattle.sections.proofs.codes.decode.Goals as goal

pub returns-in_err-out : goal.returns-in_err-out
returns-in_err-out g c = rw c.from_residual.ensures (out_of_range _ _ c.loop-i.invariant (omega arith) c.in_err-out.ensures)

pub loop-i-preserved : goal.loop-i-preserved
loop-i-preserved g c =
    one_more _ _ c.loop-i.invariant (omega arith) (omega (arith, c.requires.room)) c.in_ok-out.ensures

pub returns : goal.returns
returns g c = all_there _ _ c.loop-i.invariant (omega (arith, c.requires.room)) (omega (arith, c.requires.whole))
