-- The tree of points is at most as long as edges that lead to all of them from one, the hub: directly, or with one of them reached from another. One point
-- more makes it longer by at most the edge to a point that there was. For edges that connect the points are at least as long as the tree.
use mathlib.Core.Path.{◌≡◌, refl, ap, subst, subst⁻¹}
use mathlib.Core.Logic.{◌⊎◌, inl, inr, ⊎_elim}
use mathlib.Core.List.Memᴰ.{cases_cons as cases}
use mathlib.Core.List.Memᴰ.{head}
use mathlib.Core.List.Memᴰ.{tail}
use mathlib.Core.List.{List, [], ◌∷◌, map, Memᴰ}
use mathlib.Core.List.Memᴰ
use Prim.Native.Nat.{ℕ, ◌+◌, ◌≤◌}
use native.Mathlib.Omega.{arith}
use Rattle.arrays.specs.Order.{Sorted}
use Rattle.spanning.specs.Graph.{Conn, stop, fwd, bwd, In, Tree, total}
use Rattle.spanning.proofs.Conn.{conn_trans, conn_sym, conn_edge, conn_mono}
use Rattle.plane.specs.Point.{Point, lower, Lower, dist}
use Rattle.plane.specs.Edge.{Edge, planar}
use Rattle.plane.proofs.Order.{lower-order}
use Rattle.arrays.specs.Set.{put}
use Rattle.arrays.proofs.Set.{put_in, put-sorted}
use Rattle.model.specs.Tree.{mst, length_of, tree_length}
use Rattle.model.proofs.Tree.{edge, mst-run-tree}
use Rattle.model.proofs.Cover.{Ends, mst_cover}
use Rattle.model.proofs.Replace.{sum_dist}

-- The edges from a point to each point of a list: their length, their ends, and what they connect.
spokes : Point → List Point → List Edge
spokes c l = map (edge c) l

spokes_length : (c : Point) (l : List Point) → length_of (spokes c l) ≡ sum_dist c l
unfolding total spokes
spokes_length c [] = refl
spokes_length c (u ∷ l) = ap (λ (n : ℕ). dist c u + n) (spokes_length c l)

spokes_ends : (ps : List Point) (c : Point) (l : List Point) → Memᴰ c ps → ((u : Point) → Memᴰ u l → Memᴰ u ps) → Ends ps (spokes c l)
unfolding spokes
spokes_ends ps c l i h e m =
    let k = Memᴰ.of_map (edge c) l m in
    subst (λ (z : Edge). Memᴰ z.lo ps × Memᴰ z.hi ps) k.2 (i, h k.0 k.1)

spokes_connect : (c u : Point) (l : List Point) → Memᴰ u l → Conn planar (In (spokes c l)) c u
unfolding planar spokes
spokes_connect c u l i = conn_sym (conn_edge (edge c u) (Memᴰ.map (edge c) i))

-- If edges between the points connect all of them with c, the tree of the points is at most as long.
module _ (ps : List Point) (rise : Sorted Lower ps) where
  from_all : (C : List Edge) → Ends ps C → (c : Point) → ((u : Point) → Memᴰ u ps → Conn planar (In C) c u) → tree_length ps ≤ length_of C
  from_all C h c f = mst_cover ps rise C h (λ u v i j. conn_trans (conn_sym (f v j)) (f u i))

  -- By the edges from c to all others.
  pub by_hub : (c : Point) (l : List Point) → Memᴰ c ps → ((u : Point) → Memᴰ u l → Memᴰ u ps)
      → ((u : Point) → Memᴰ u ps → (u ≡ c) ⊎ Memᴰ u l) → tree_length ps ≤ sum_dist c l
  by_hub c l i h only =
      omega (
        arith,
        from_all (spokes c l) (spokes_ends ps c l i h) c (λ u j. ⊎_elim (λ e. stop e) (spokes_connect c u l) (only u j)),
        spokes_length c l,
      )

  -- By the edges from d to some points, one of which is c, and the edge from c to the last, r.
  pub by_two : (d c r : Point) (l : List Point) → Memᴰ d ps → Memᴰ r ps → Memᴰ c l → ((u : Point) → Memᴰ u l → Memᴰ u ps)
      → ((u : Point) → Memᴰ u ps → (u ≡ d) ⊎ Memᴰ u (r ∷ l)) → tree_length ps ≤ sum_dist d l + dist c r
  unfolding total planar
  by_two d c r l i j k h only =
      omega (
        arith,
        from_all (edge c r ∷ spokes d l)
            (λ e m. ⊎_elim (λ q. subst⁻¹ (λ (z : Edge). Memᴰ z.lo ps × Memᴰ z.hi ps) q (h c k, j)) (spokes_ends ps d l i h e) (cases m)) d
            (λ u m. ⊎_elim (λ e. stop e) (λ n. ⊎_elim (λ e. bwd (edge c r) (head refl) e (old c k)) (old u) (cases n)) (only u m)),
        spokes_length d l,
      )
    where
      old : (u : Point) → Memᴰ u l → Conn planar (In (edge c r ∷ spokes d l)) d u
      old u m = conn_mono (λ e n. tail n) (spokes_connect d u l m)

-- A point that joins others brings at most the edge to one of them.
pub joined-most : (ps : List Point) → Sorted Lower ps → (c p : Point) → Memᴰ p ps → tree_length (put lower c ps) ≤ dist c p + tree_length ps
unfolding total planar tree_length
joined-most ps rise c p i =
    from_all (put lower c ps) (put-sorted lower lower-order c ps rise) (edge c p ∷ mst ps)
    (λ e m. ⊎_elim
    (λ q. subst⁻¹ (λ (z : Edge). Memᴰ z.lo joined × Memᴰ z.hi joined) q ((put_in lower lower-order c c ps).1 (inl refl), there p i))
    (λ k. let r = tree.ends e k in (there e.lo r.0, there e.hi r.1)) (cases m)) p
    (λ u m. ⊎_elim (λ e. fwd (edge c p) (head refl) e (stop refl)) (λ k. conn_mono (λ e n. tail n) (tree.spans u p k i))
    ((put_in lower lower-order c u ps).0 m))
  where
    joined : List Point
    joined = put lower c ps

    tree : Tree planar ps (mst ps)
    tree = (mst-run-tree ps rise).tree

    there : (u : Point) → Memᴰ u ps → Memᴰ u joined
    there u k = (put_in lower lower-order c u ps).1 (inr k)
