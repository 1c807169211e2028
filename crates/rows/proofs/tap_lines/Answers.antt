-- `rows::tap_lines` meets its contract: one Steiner point more adds its line.
use native.Mathlib.Omega.{arith}
use Rattle.arrays.proofs.paste.Lines.{first_none, first_more}
use Rattle.rows.proofs.Lines.{tap_text, tap_none, tap_more}
use Rattle.rows.proofs.tap_lines.Goals as goal

pub loop-k-init : goal.loop-k-init
loop-k-init c = first_none (tap_text c.args.codes.now) 18 _ _ _ (tap_none c.args.codes.now)

pub loop-k-preserved : goal.loop-k-preserved
loop-k-preserved c =
    first_more (tap_text c.args.codes.now) 18 _ _ _ _ _ _ _ _ _ c.loop-k.invariant c.loop-k-test.true
    (tap_more c.args.codes.now c.loop-k.k-index c.loop-k-test.true) (omega arith) c.tap_line-next.ensures.pasted
    c.tap_line-next.ensures.upper_bound c.tap_line-next.auto.out
