-- `test_tree::lengths::try_each` meets its contract. The invariant: the lengths of the crossings passed stand at the front.
use mathlib.Core.Path.{◌≡◌, ap, ◌∙◌}
use mathlib.Core.List.{◌++◌}
use native.Mathlib.Omega.{arith}
use lib.ListN.{length, drop}
use Rattle.test_tree.specs.Answers.{lengths_with}
use Rattle.test_tree.proofs.lengths.Rows.{row_none, row_more}
use Rattle.test_tree.proofs.lengths.try_each.Goals as goal

pub loop-i-init : goal.loop-i-init
loop-i-init c = row_none _ _

pub loop-i-preserved : goal.loop-i-preserved
loop-i-preserved c = row_more _ _ _ _ _ (omega (arith, c.requires.fits)) c.loop-i.invariant c.length_at.ensures

pub returns : goal.returns
returns c = let l = c.loop-i in
    let a = c.args in
    let e : l.i ≡ length a.cx.now = omega arith in
    l.invariant ∙ ap (λ i. lengths_with a.xs.now a.ys.now (length a.xs.now) a.cx.now a.cy.now i ++ drop i a.out.now) e
