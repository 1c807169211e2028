-- At most 126 points between calls and 127 during a round; every tree of points in range on so few points is at most 15,246,000 long, with the longest tails.
use mathlib.Core.Path.{◌≡◌, ap, subst, subst⁻¹}
use mathlib.Core.Logic.{◌⊎◌, ⊎_elim}
use mathlib.Core.List.{List, [], ◌∷◌, Memᴰ}
use Prim.Native.Nat.{ℕ, suc, ◌+◌, ◌≤◌}
use native.Mathlib.Omega.{arith}
use lib.Dec.{T}
use lib.ListN.{length}
use Rattle.arrays.specs.Order.{Sorted}
use Rattle.arrays.proofs.Members.{sorted_distinct}
use Rattle.spanning.proofs.Totals.{total-most}
use Rattle.spanning.proofs.Count.{tree-count, tree_none}
use Rattle.plane.specs.Point.{Point, in_range, lower, Lower}
use Rattle.plane.specs.Edge.{planar}
use Rattle.plane.proofs.Order.{lower-order}
use Rattle.plane.proofs.Range.{dist_range}
use Rattle.arrays.specs.Set.{put}
use Rattle.model.specs.Tree.{mst}
use Rattle.model.specs.Tail.{longest_tail, run_length, tree_length_with}
use Rattle.model.specs.State.{State, points, Valid}
use Rattle.model.specs.Session.{most_points, longest_tree}
use Rattle.arrays.proofs.Set.{put_in, put-sorted, put-length, union-length}
use Rattle.model.proofs.Tree.{mst-run-tree}
use Rattle.model.proofs.Prune.{points_in_lem, points-rise, few-steiner}
use Rattle.model.specs.Choice.{Candidate}
use Rattle.model.proofs.Round.{candidate_range}

-- The number of points held.
pub points-count : (s : State) → Valid s → length (points s) ≡ length s.pins + length s.steiner
unfolding points
points-count s v = union-length lower lower-order s.pins s.steiner v.placed.pins_rise v.placed.apart

pub points-few : (s : State) → Valid s → length (points s) ≤ most_points
points-few s v = ⊎_elim (λ e. omega (arith, points-count s v, v.few)) (λ h. omega (arith, points-count s v, v.few)) (few-steiner s v)

-- A tree has one edge less than points, and none where there is no point.
pub edges_fewer : (ps : List Point) (n : ℕ) → Sorted Lower ps → length ps ≤ suc n → length (mst ps) ≤ n
edges_fewer [] n rise h = omega (arith, ap length (tree_none planar (mst []) (mst-run-tree [] rise).tree))
edges_fewer (p ∷ l) n rise h =
    omega (arith, tree-count planar (p ∷ l) (mst (p ∷ l)) (sorted_distinct lower-order (p ∷ l) rise) (mst-run-tree (p ∷ l) rise).tree (omega arith))

pub length-bound : (tail : ℕ) → tail ≤ longest_tail → (ps : List Point) → Sorted Lower ps → length ps ≤ suc most_points
    → ((p : Point) → Memᴰ p ps → T (in_range p))
    → tree_length_with tail ps ≤ longest_tree
unfolding tree_length_with planar
length-bound tail h ps rise few range =
    omega (
      arith,
      edges_fewer ps most_points rise few,
      total-most (run_length tail) 121000 (mst ps)
          (λ e i. let b = (mst-run-tree ps rise).tree.ends e i in
          omega (arith, h, dist_range e.lo e.hi (range e.lo b.0) (range e.hi b.1))),
    )

pub held_range : (s : State) → Valid s → (p : Point) → Memᴰ p (points s) → T (in_range p)
held_range s v p i = ⊎_elim (v.placed.pins_range p) (v.placed.steiner_range p) ((points_in_lem s p).0 i)

module _ (s : State) (v : Valid s) (c : Point) (k : Candidate (points s) c) where
  pub round-few : length (put lower c (points s)) ≤ suc most_points
  round-few = omega (arith, put-length lower lower-order c (points s) k.free, points-few s v)

  pub round-fits : (tail : ℕ) → tail ≤ longest_tail → tree_length_with tail (put lower c (points s)) ≤ longest_tree
  round-fits tail h =
      length-bound tail h (put lower c (points s)) (put-sorted lower lower-order c (points s) (points-rise s v.placed.steiner_rise)) round-few
      (λ p i. ⊎_elim (λ e. subst⁻¹ (λ z. T (in_range z)) e (candidate_range s v.placed c k)) (held_range s v p)
      ((put_in lower lower-order c p (points s)).0 i))
