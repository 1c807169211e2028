-- `test_tree::points::rises` meets its contract. The invariant: the points passed rise.
use mathlib.Core.Path.{refl, sym, ◌∙◌, subst}
use native.Mathlib.Omega.{arith}
use lib.Dec.{T}
use Rattle.test_tree.proofs.points.Rising.{says_yes, says_no, rises_one, rises_fewer, rises_more, rises_not}
use Rattle.test_tree.proofs.points.rises.Goals as goal

pub loop-i-init : goal.loop-i-init
loop-i-init c = rises_one _

pub returns-then-not-is_lower : goal.returns-then-not-is_lower
returns-then-not-is_lower c = says_no refl (rises_not _ _ _ (omega arith) (omega arith) (sym c.is_lower.ensures ∙ c.if-not-is_lower.true))

pub loop-i-preserved : goal.loop-i-preserved
loop-i-preserved c = rises_more _ _ (omega arith) c.loop-i.invariant (subst T (sym (sym c.is_lower.ensures ∙ c.if-not-is_lower.false)) tt)

pub returns : goal.returns
returns c = says_yes refl (rises_fewer _ _ _ (omega arith) c.loop-i.invariant)
