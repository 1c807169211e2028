-- `test_tree::lengths::try_each` meets its contract. The invariant: the lengths of the crossings passed stand at the front.
use mathlib.Core.Path.{◌≡◌}
use mathlib.Core.List.{◌++◌}
use lib.ListN.{length, drop}
use Rattle.test_tree.specs.Answers.{lengths_with}
use Rattle.test_tree.proofs.lengths.try_each.Given as goal

abbrev pub invariant-loop-i : goal.invariant-loop-i
invariant-loop-i l = l.out ≡ lengths_with l.xs l.ys (length l.xs) l.cx l.cy l.i ++ drop l.i l.initial.out
