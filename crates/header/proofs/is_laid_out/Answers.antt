-- `header::is_laid_out` meets its contract. The invariant: the sections passed follow one another, and the others decide.
use native.Mathlib.Omega.{arith}
use Rattle.header.proofs.Checks.{pairs_missing, none_passed, next_passed, apart, all_passed}
use Rattle.header.proofs.is_laid_out.Goals as goal

pub returns-then-b-at : goal.returns-then-b-at
returns-then-b-at c = pairs_missing (c.args.b.now) _ _ c.number2-n.ensures.0 c.header_size-at.ensures (omega (arith, c.if-b-at.true, c.requires))

pub loop-k-init : goal.loop-k-init
loop-k-init c = none_passed (c.args.b.now) _ _ c.number2-n.ensures.0 c.header_size-at.ensures c.if-b-at.false

pub returns-then-offset-at : goal.returns-then-offset-at
returns-then-offset-at c = apart _ _ c.loop-k.invariant c.loop-k-test.true c.offset.ensures.0 c.if-offset-at.true

pub loop-k-preserved : goal.loop-k-preserved
loop-k-preserved c = next_passed _ _ c.loop-k.invariant c.loop-k-test.true c.offset.ensures.0 c.if-offset-at.false
    c.size-at.ensures.0 c.size-at.ensures.1

pub returns : goal.returns
returns c = all_passed _ _ c.loop-k.invariant c.loop-k-test.false
