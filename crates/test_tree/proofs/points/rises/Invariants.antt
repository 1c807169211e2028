-- `test_tree::points::rises` meets its contract. The invariant: the points passed rise.
use Rattle.keys.specs.Held.{held}
use Rattle.tree.specs.Build.{Rises}
use Rattle.test_tree.proofs.points.rises.Given as goal

abbrev pub invariant-loop-i : goal.invariant-loop-i
invariant-loop-i l = Rises (held l.xs l.ys) l.i
