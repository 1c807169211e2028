-- Tails leave the order of runs and THE tree: each run gains the same two tails, and each tree over the points the same number of them.
use mathlib.Core.Path.{◌≡◌, sym, ◌∙◌, subst, subst⁻¹}
use mathlib.Core.Logic.{◌↔◌}
use mathlib.Core.List.{List}
use Prim.Native.Nat.{ℕ, ◌+◌, ◌≤◌}
use native.Mathlib.Omega.{arith}
use lib.Dec.{T, ltb, ltb→lt, lt→ltb}
use Rattle.spanning.specs.Graph.{Tree}
use Rattle.arrays.specs.Order.{Sorted, First}
use Rattle.arrays.specs.Test.{then_by}
use Rattle.arrays.proofs.Test.{same_test}
use Rattle.plane.specs.Point.{Point, Lower}
use Rattle.plane.specs.Edge.{Edge, edge_length, listed_before, before, Before, planar}
use Rattle.model.specs.Tree.{mst, length_of, tree_length, RunTree, TheTree}
use Rattle.model.specs.Tail.{run_length, length_with, before_with}
use Rattle.model.specs.TailClaim.{BeforeWith, RunTreeWith, TheTreeWith, Tails}
use Rattle.model.proofs.Tail.{difference_kept}
use Rattle.model.proofs.Tree.{any_tree-edges, tree-edges}
use Rattle.model.proofs.Cover.{mst-least}

-- Two tails on both sides change no comparison.
pub order-kept : (tail : ℕ) (r s : Edge) → before_with tail r s ≡ before r s
unfolding before_with before
order-kept tail r s = λ i. then_by (less r s i) (less s r i) (λ _. listed_before r s)
  where
    less : (e f : Edge) → ltb (run_length tail e) (run_length tail f) ≡ ltb (edge_length e) (edge_length f)
    less e f =
        same_test (ltb (run_length tail e) (run_length tail f)) (ltb (edge_length e) (edge_length f))
        (λ t. lt→ltb (edge_length e) (edge_length f) (omega (arith, ltb→lt (run_length tail e) (run_length tail f) t)))
        (λ t. lt→ltb (run_length tail e) (run_length tail f) (omega (arith, ltb→lt (edge_length e) (edge_length f) t)))

order_is : (tail : ℕ) → BeforeWith tail ≡ Before
order_is tail = λ i r s. T (order-kept tail r s i)

module _ (tail : ℕ) (ps : List Point) where
  run-tree_with : (t : List Edge) → RunTreeWith tail ps t ↔ RunTree ps t
  run-tree_with t = (
    λ h. record { tree = h.tree; rising = h.rising; sorted = subst (λ (b : Edge → Edge → Type 0). Sorted b t) (order_is tail) h.sorted },
    λ h. record { tree = h.tree; rising = h.rising; sorted = subst⁻¹ (λ (b : Edge → Edge → Type 0). Sorted b t) (order_is tail) h.sorted },
  )

  -- Trees over the same points have as many runs.
  module _ (rise : Sorted Lower ps) (t u : List Edge) (a : RunTree ps t) (b : RunTree ps u) where
    kept : length_with tail t + length_of u ≡ length_with tail u + length_of t
    kept = difference_kept tail t u (any_tree-edges ps rise t a.tree ∙ sym (any_tree-edges ps rise u b.tree))

  -- Every tree over the points, in any order of its runs, is at least as long as theirs.
  pub least-with_tails : Sorted Lower ps → (t : List Edge) → Tree planar ps t → length_with tail (mst ps) ≤ length_with tail t
  unfolding tree_length
  least-with_tails rise t h =
      omega (arith, mst-least ps rise t h, difference_kept tail (mst ps) t (tree-edges ps rise ∙ sym (any_tree-edges ps rise t h)))

  pub the_tree_with : Sorted Lower ps → (t : List Edge) → TheTreeWith tail ps t ↔ TheTree ps t
  the_tree_with rise t = (
    λ h. let a = (run-tree_with t).0 h.tree in
        record {
          tree = a;
          least = λ u b. omega (arith, h.least u ((run-tree_with u).1 b), kept rise t u a b);
          first = λ u b e. subst (λ (o : Edge → Edge → Type 0). First o t u) (order_is tail)
              (h.first u ((run-tree_with u).1 b) (omega (arith, kept rise t u a b)));
        },
    λ h. record {
      tree = (run-tree_with t).1 h.tree;
      least = λ u b. omega (arith, h.least u ((run-tree_with u).0 b), kept rise t u h.tree ((run-tree_with u).0 b));
      first = λ u b e. subst⁻¹ (λ (o : Edge → Edge → Type 0). First o t u) (order_is tail)
          (h.first u ((run-tree_with u).0 b) (omega (arith, kept rise t u h.tree ((run-tree_with u).0 b))));
    },
  )

pub tails : (tail : ℕ) → Tails tail
tails tail = record { order = order-kept tail; tree = the_tree_with tail }
