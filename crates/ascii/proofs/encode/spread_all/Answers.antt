-- `ascii::encode::spread_all` meets its contract: one byte more adds what stands for it.
use native.Mathlib.Omega.{arith}
use Rattle.ascii.specs.Encoding.{spread}
use Rattle.arrays.proofs.paste.Lines.{each-first_none, each-first_more}
use Rattle.ascii.proofs.encode.spread_all.Goals as goal

pub loop-b-init : goal.loop-b-init
loop-b-init c = each-first_none spread 3 _ _ _ _

pub loop-b-preserved : goal.loop-b-preserved
loop-b-preserved c = each-first_more spread 3 _ _ _ _ c.loop-b.invariant c.loop-b-test.true (omega arith) (omega arith)
    c.spread-next.ensures.pasted c.spread-next.ensures.upper_bound c.spread-next.auto.out
