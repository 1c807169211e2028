-- The length of the tree with a crossing, from the gain of rays near it. Where a point is held at the crossing, the ray to it spares
-- all but the tree's own length.
use mathlib.Core.Path.{◌≡◌, refl, sym, ap, ◌∙◌}
use mathlib.Core.Logic.{inr}
use mathlib.Core.Bool.{Bool, true, false}
use mathlib.Core.List.Memᴰ.{eq_of_singleton}
use mathlib.Core.List.Memᴰ.{head}
use mathlib.Core.List.{List, [], ◌∷◌}
use Prim.Native.Nat.{ℕ, ◌+◌, ◌≤◌, ◌<◌}
use native.Mathlib.Omega.{arith}
use Rattle.spanning.specs.Graph.{total}
use Rattle.plane.specs.Point.{Point, lower, dist}
use Rattle.plane.proofs.Order.{lower-order}
use Rattle.plane.proofs.Metric.{dist_sym, dist_self}
use Rattle.arrays.specs.Set.{put, has}
use Rattle.model.specs.Tree.{tree_length}
use Rattle.arrays.proofs.Set.{has_in, put_same}
use Rattle.tree.specs.Build.{Rises}
use Rattle.keys.specs.Keys.{weight, all_keys, tree_keys, joined_keys}
use Rattle.arrays.specs.Tab.{tab}
use Rattle.arrays.proofs.Tab.{tab_in}
use Rattle.tree.proofs.Lengths.{rising-total, joined-total}
use Rattle.tree.proofs.Sorted.{ps_sorted}
use Rattle.regions.specs.Rays.{ray, ray_point, far}
use Rattle.score.specs.Gain.{bound, gain}
use Rattle.score.proofs.Bounds.{Plain}
use Rattle.score.proofs.Nearby.{Nearby, joined-weight}

module _ (at : ℕ → Point) {n : ℕ} {t : ℕ → ℕ → ℕ} (p : Plain (all_keys at n) n t) (rises : Rises at n) (c : Point) (near : (i : ℕ) → dist (at i) c ≤ far) where
  -- The ray to a point held at the crossing does for all.
  held_nearby : (i : ℕ) → i < n → c ≡ at i → Nearby at c n (ray 0 i ∷ [])
  held_nearby i l e =
      let none : dist (at i) c ≡ 0 = rw e (dist_self (at i)) in
      let number : ray_point (ray 0 i) ≡ i = omega arith in
      record {
        edges = λ k m. inr (i, l, rw none (eq_of_singleton m));
        covers = λ j h. (ray 0 i, head refl, omega arith, rw (number, ← e) (omega (arith, dist_sym c (at j))));
      }

  held-weight : (i : ℕ) → i < n → c ≡ at i → total weight (joined_keys at c n) ≡ total weight (tree_keys at n)
  unfolding gain bound
  held-weight i l e = omega (arith, joined-weight p near (held_nearby i l e))

  joined_length : total weight (joined_keys at c n) ≡ tree_length (put lower c (tab at n))
  joined_length = go (has lower c (tab at n)) refl
    where
      go : (b : Bool) → has lower c (tab at n) ≡ b → total weight (joined_keys at c n) ≡ tree_length (put lower c (tab at n))
      go true e =
          let m = (has_in lower lower-order c (tab at n)).0 (rw e tt) in
          let r = (tab_in at n c).0 m in
          held-weight r.0 r.1 r.2
          ∙ rising-total at n (omega arith) rises
          ∙ ap tree_length (sym (put_same lower lower-order c (tab at n) (ps_sorted at n (omega arith) rises) m))
      go false e =
          joined-total at c n p.small rises (λ i l q. rw e at ((has_in lower lower-order c (tab at n)).1 ((tab_in at n c).1 (i, l, q))))

  -- The tree with the crossing is shorter by the gain than with an edge of length `far`.
  pub length_with_lem : (ks : List ℕ) → Nearby at c n ks → tree_length (put lower c (tab at n)) + gain t ks ≡ far + tree_length (tab at n)
  length_with_lem ks r = omega (arith, joined_length, joined-weight p near r, rising-total at n (omega arith) rises)
