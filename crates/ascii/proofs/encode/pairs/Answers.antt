-- `ascii::encode::pairs` meets its contract: one byte more adds its two digits.
use native.Mathlib.Omega.{arith}
use Rattle.ascii.specs.Encoding.{hex_pair}
use Rattle.arrays.proofs.paste.Lines.{each-first_none, each-first_more}
use Rattle.ascii.proofs.encode.pairs.Goals as goal

pub loop-b-init : goal.loop-b-init
loop-b-init c = each-first_none hex_pair 2 _ _ _ _

pub loop-b-preserved : goal.loop-b-preserved
loop-b-preserved c = each-first_more hex_pair 2 _ _ _ _ c.loop-b.invariant c.loop-b-test.true (omega arith) (omega arith)
    c.pair-next.ensures.pasted c.pair-next.ensures.upper_bound c.pair-next.auto.out
