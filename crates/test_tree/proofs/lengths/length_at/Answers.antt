-- `test_tree::lengths::length_at` meets its contract: no points have no length, and for some it is that of `length_with`.
use native.Mathlib.Omega.{arith}
use Rattle.std.proofs.lemmas.Bool.Decides.{nat_tests}
use Rattle.test_tree.proofs.lengths.Rows.{length_alone}
use Rattle.test_tree.proofs.lengths.length_at.Goals as goal

pub returns-then-is_empty : goal.returns-then-is_empty
returns-then-is_empty c = length_alone c.args.xs.now c.args.ys.now _ _ _ (grind (arith, nat_tests))
