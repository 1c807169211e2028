-- Taking out a point of at most two edges lengthens no tree: it is replaced by one of its neighbours, by the triangle inequality.
use mathlib.Core.Path.{◌≡◌, refl, sym, ap, ◌∙◌, subst, subst⁻¹}
use mathlib.Core.Logic.{◌⊎◌, ⊎_elim}
use mathlib.Core.List.Memᴰ.{head}
use mathlib.Core.List.{List, [], ◌∷◌, Memᴰ}
use Prim.Native.Nat.{◌≤◌}
use native.Mathlib.Nat.{le_trans}
use native.Mathlib.Omega.{arith}
use lib.ListN.{length}
use Rattle.spanning.specs.Graph.{Conn, In, total}
use Rattle.arrays.specs.Order.{Sorted}
use Rattle.plane.specs.Point.{Point, lower, Lower, point_dec}
use Rattle.plane.specs.Edge.{Edge, planar}
use Rattle.plane.proofs.Order.{lower-order}
use Rattle.plane.proofs.Metric.{dist_sym, dist_self, triangle}
use Rattle.arrays.specs.Set.{out}
use Rattle.model.specs.Tree.{mst, tree_length, edges_at, RunTree}
use Rattle.arrays.proofs.Set.{out_in, out-sorted}
use Rattle.model.proofs.Tree.{mst-run-tree}
use Rattle.plane.proofs.Axis.{Connects}
use Rattle.model.proofs.Cover.{mst_cover}
use Rattle.model.proofs.Replace.{swap, swap_same, swap_other, replaced, star, sum_dist, replaced_conn, replaced_ends, replaced_length}
use Rattle.model.proofs.Replace.{star-count, star-edge, star_none}

-- A first neighbour is as near to all (at most two) neighbours as q is.
near_enough : (q n : Point) (l : List Point) → length l ≤ 1 → sum_dist n (n ∷ l) ≤ sum_dist q (n ∷ l)
unfolding total
near_enough q n [] h = omega (arith, dist_self n)
near_enough q n (m ∷ []) h = omega (arith, dist_self n, triangle n q m, dist_sym n q)
near_enough q n (m ∷ k ∷ l) h = absurd (omega arith)

module _ (ps : List Point) (rising : Sorted Lower ps) (q : Point) (held : Memᴰ q ps) where
  tree : RunTree ps (mst ps)
  tree = mst-run-tree ps rising

  rest : List Point
  rest = out lower q ps

  rest-rising : Sorted Lower rest
  unfolding rest
  rest-rising = out-sorted lower lower-order q ps rising

  in_rest : (u : Point) → Memᴰ u ps → ¬ (u ≡ q) → Memᴰ u rest
  unfolding rest
  in_rest u i n = (out_in lower lower-order q u ps).1 (i, n)

  from_rest : (u : Point) → Memᴰ u rest → Memᴰ u ps × ¬ (u ≡ q)
  unfolding rest
  from_rest u i = (out_in lower lower-order q u ps).0 i

  -- With no edge at q the tree connects the others by itself.
  alone : star q (mst ps) ≡ [] → tree_length rest ≤ tree_length ps
  unfolding tree_length planar
  alone z =
      mst_cover rest rest-rising (mst ps)
      (λ e i. let b = tree.tree.ends e i in let n = star_none q (mst ps) z e i in
      (in_rest e.lo b.0 (λ h. n.0 (sym h)), in_rest e.hi b.1 (λ h. n.1 (sym h))))
      (λ u v i j. tree.tree.spans u v (from_rest u i).0 (from_rest v j).0)

  -- With one or two, its neighbour n takes its place.
  by_neighbour : (n : Point) (l : List Point) → star q (mst ps) ≡ n ∷ l → length l ≤ 1 → tree_length rest ≤ tree_length ps
  unfolding tree_length planar
  by_neighbour n l z h =
      le_trans
      (mst_cover rest rest-rising (replaced q n (mst ps)) (replaced_ends q n ps rest (mst ps) go_along tree.tree.ends) connects)
      (omega (arith, replaced_length q n (mst ps), ap (sum_dist n) z, ap (sum_dist q) z, near_enough q n l h))
    where
      found : (e : Edge) × Memᴰ e (mst ps) × (((q ≡ e.lo) × (n ≡ e.hi)) ⊎ ((q ≡ e.hi) × (n ≡ e.lo)))
      found = star-edge q n (mst ps) (subst⁻¹ (λ (m : List Point). Memᴰ n m) z (head refl))

      differ : ¬ (found.0.lo ≡ found.0.hi)
      differ m = lower-order.irrefl found.0.hi (subst (λ (p : Point). Lower p found.0.hi) m (tree.rising found.0 found.1))

      n_held : Memᴰ n rest
      n_held =
          ⊎_elim
          (λ c. in_rest n (subst⁻¹ (λ (p : Point). Memᴰ p ps) c.1 (tree.tree.ends found.0 found.1).1)
          (λ m. differ (sym c.0 ∙ sym m ∙ c.1)))
          (λ c. in_rest n (subst⁻¹ (λ (p : Point). Memᴰ p ps) c.1 (tree.tree.ends found.0 found.1).0) (λ m. differ (sym c.1 ∙ m ∙ c.0)))
          found.2

      go_along : (u : Point) → Memᴰ u ps → Memᴰ (swap q n u) rest
      go_along u i = by (point_dec u q)
        where
          by : Dec (u ≡ q) → Memᴰ (swap q n u) rest
          by (yes e) = subst⁻¹ (λ (p : Point). Memᴰ p rest) (swap_same q n u e) n_held
          by (no m) = subst⁻¹ (λ (p : Point). Memᴰ p rest) (swap_other q n u m) (in_rest u i m)

      connects : Connects rest (replaced q n (mst ps))
      connects u v i j =
          let a = from_rest u i in
          let b = from_rest v j in
          subst (λ (p : Point). Conn planar (In (replaced q n (mst ps))) v p) (swap_other q n u a.1)
          (subst (λ (p : Point). Conn planar (In (replaced q n (mst ps))) p (swap q n u)) (swap_other q n v b.1)
          (replaced_conn q n (mst ps) (tree.tree.spans u v a.0 b.0)))

  pub removal : edges_at q (mst ps) ≤ 2 → tree_length (out lower q ps) ≤ tree_length ps
  unfolding rest
  removal h = go (star q (mst ps)) refl (star-count q (mst ps))
    where
      go : (l : List Point) → star q (mst ps) ≡ l → length (star q (mst ps)) ≡ edges_at q (mst ps) → tree_length rest ≤ tree_length ps
      go [] z c = alone z
      go (n ∷ l) z c = by_neighbour n l z (omega (arith, ap length z))
