-- A working form has what the search for the best crossing asks for, and the search is over the points of its state.
use mathlib.Core.Path.{◌≡◌, ap, ◌∙◌}
use Prim.Native.Nat.{ℕ}
use native.Mathlib.Omega.{arith}
use lib.ListN.{length, take}
use Rattle.model.specs.State.{points}
use Rattle.model.specs.Round.{best}
use Rattle.working.specs.declared.Working.{Working}
use Rattle.working.specs.InOrder.{state_of}
use Rattle.crossing.proofs.First.{first_given, first_points}
use Rattle.search.specs.Search.{TreeGiven, points_of, answer_of}

module _ (w : Working) (hx : length w.xs ≡ 128) (hy : length w.ys ≡ 128) (hk : length w.keys ≡ 136) where
  pub given : TreeGiven (take w.npoints w.xs) (take w.npoints w.ys) (take w.nkeys w.keys)
  given = first_given w.xs w.ys w.npoints (omega (arith, w.in_order.few)) (omega (arith, w.in_order.few)) (take w.nkeys w.keys) (omega (arith, w.in_order.few))
      w.in_order.rises w.in_order.tree

  pub best_is : (tail : ℕ) → answer_of (best tail (points_of (take w.npoints w.xs) (take w.npoints w.ys))) ≡ answer_of (best tail (points (state_of w)))
  best_is tail =
      ap (λ ps. answer_of (best tail ps)) (first_points w.xs w.ys w.npoints (omega (arith, w.in_order.few)) (omega (arith, w.in_order.few)) ∙ w.in_order.points)
