-- `nearest::nearest` meets its contract. The loop's invariant: the table holds the least keys to the points passed.
use mathlib.Core.Path.{◌≡◌}
use Prim.Native.Nat.{ℕ}
use lib.ListN.{length}
use Rattle.plane.specs.Stored.{point_at}
use Rattle.keys.specs.Held.{held}
use Rattle.keys.specs.Keys.{least_key}
use Rattle.arrays.specs.Tab.{tab}
use Rattle.nearest.proofs.nearest.Given as goal

abbrev pub invariant-loop-j : goal.invariant-loop-j
invariant-loop-j l = l.best ≡ tab (λ (o : ℕ). least_key (held l.xs l.ys) (point_at l.x l.y) (length l.xs) o l.j) 8
