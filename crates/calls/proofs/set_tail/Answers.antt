-- `calls::set_tail` meets its contract: the test for 16, else the tail is another and all else is kept.
use native.Mathlib.Omega.{arith}
use Rattle.calls.proofs.PointCalls.{refused_is}
use Rattle.calls.proofs.RoundCalls.{tail-refused, tail-set}
use Rattle.calls.proofs.set_tail.Goals as goal

pub returns-then-tail-gt-LONGEST_TAIL : goal.returns-then-tail-gt-LONGEST_TAIL
returns-then-tail-gt-LONGEST_TAIL c = refused_is c.args.d _ 16 (tail-refused _ _ (omega (arith, c.from-tail.ensures, c.if-tail-gt-LONGEST_TAIL.true)))
    _ c.refuse.ensures

pub returns : goal.returns
returns c = tail-set c.args.d _ _ c.from-tail.ensures c.if-tail-gt-LONGEST_TAIL.false
