-- Lengths with tails by lengths without: every tree over n points has n - 1 runs, so tails add the same to each, and with one point more a run's
-- two tails besides.
use mathlib.Core.Path.{◌≡◌, ap, ◌∙◌}
use mathlib.Core.List.{List, Memᴰ}
use Prim.Native.Nat.{ℕ, suc, ◌+◌, ◌*◌, ◌≤◌}
use native.Mathlib.Nat.{mul-suc, mul-le-mul_left}
use native.Mathlib.Omega.{arith}
use lib.ListN.{length}
use Rattle.arrays.specs.Order.{Sorted}
use Rattle.arrays.specs.Set.{put}
use Rattle.arrays.proofs.Set.{put-sorted, put-length}
use Rattle.spanning.proofs.Totals.{total-sum, total_const}
use Rattle.plane.specs.Point.{Point, lower, Lower}
use Rattle.plane.specs.Edge.{Edge, edge_length}
use Rattle.plane.proofs.Order.{lower-order}
use Rattle.model.specs.Tree.{mst, length_of, tree_length}
use Rattle.model.specs.Tail.{length_with, tree_length_with}
use Rattle.model.proofs.Tree.{tree-edges}

-- Runs together: their distances, and two tails for each.
pub length_with_lem : (tail : ℕ) (t : List Edge) → length_with tail t ≡ length_of t + 2 * tail * length t
length_with_lem tail t = total-sum edge_length (λ _. 2 * tail) t ∙ ap (λ (n : ℕ). length_of t + n) (total_const (2 * tail) t)

-- No tails, no difference.
pub no_tails : (t : List Edge) → length_with 0 t ≡ length_of t
no_tails t = omega (arith, length_with_lem 0 t)

-- As many runs: what is shorter without tails is shorter with them, and the other way round.
module _ (tail : ℕ) (t u : List Edge) (same : length t ≡ length u) where
  spare : 2 * tail * length t ≡ 2 * tail * length u
  spare = ap (λ (n : ℕ). 2 * tail * n) same

  pub difference_kept : length_with tail t + length_of u ≡ length_with tail u + length_of t
  difference_kept = omega (arith, length_with_lem tail t, length_with_lem tail u, spare)

-- One run more.
pub one_run_more : (tail : ℕ) (t u : List Edge) → length u ≡ suc (length t) → length_with tail u + length_of t ≡ length_with tail t + length_of u + 2 * tail
one_run_more tail t u more =
    omega (arith, length_with_lem tail t, length_with_lem tail u, ap (λ (n : ℕ). 2 * tail * n) more, mul-suc (2 * tail) (length t))

-- No more runs, and no longer without tails.
pub no_more_runs : (tail : ℕ) (t u : List Edge) → length t ≤ length u → length_of t ≤ length_of u → length_with tail t ≤ length_with tail u
no_more_runs tail t u few short = omega (arith, length_with_lem tail t, length_with_lem tail u, mul-le-mul_left (2 * tail) few)

-- The same of the trees of points.
pub tree_no_tails : (ps : List Point) → tree_length_with 0 ps ≡ tree_length ps
unfolding tree_length_with tree_length
tree_no_tails ps = no_tails (mst ps)

pub fewer_points : (tail : ℕ) (ps qs : List Point) → Sorted Lower ps → Sorted Lower qs → length ps ≤ length qs → tree_length ps ≤ tree_length qs
    → tree_length_with tail ps ≤ tree_length_with tail qs
unfolding tree_length_with tree_length
fewer_points tail ps qs rise rise' few short = no_more_runs tail (mst ps) (mst qs) (omega (arith, tree-edges ps rise, tree-edges qs rise')) short

-- A point that joins at least one other brings one run more.
pub one_point_more : (tail : ℕ) (ps : List Point) → Sorted Lower ps → 1 ≤ length ps → (c : Point) → ¬ Memᴰ c ps
    → tree_length_with tail (put lower c ps) + tree_length ps ≡ tree_length_with tail ps + tree_length (put lower c ps) + 2 * tail
unfolding tree_length_with tree_length
one_point_more tail ps rise some c free =
    one_run_more tail (mst ps) (mst (put lower c ps))
    (omega (
      arith,
      tree-edges ps rise,
      tree-edges (put lower c ps) (put-sorted lower lower-order c ps rise),
      put-length lower lower-order c ps free,
    ))
