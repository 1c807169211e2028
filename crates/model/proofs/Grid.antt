-- The grid theorem for one point: if any whole point, not held, has a tree over the held points and it that is shorter than the
-- tree by more than k, then some candidate shortens it by more than k. The point is replaced by one with the median x and the median y of its neighbours.
use mathlib.Core.Path.{◌≡◌, refl, sym, ap, ◌∙◌, subst, subst⁻¹}
use mathlib.Core.Logic.{◌⊎◌, inl, inr, ⊎_elim}
use mathlib.Core.List.Memᴰ.{cases_cons as cases}
use mathlib.Core.List.Memᴰ.{head}
use mathlib.Core.List.Memᴰ.{tail as later}
use mathlib.Core.List.{List, [], ◌∷◌, map, Memᴰ}
use Prim.Native.Nat.{ℕ, ◌+◌, ◌*◌, ◌≤◌}
use native.Mathlib.Nat.{le_trans}
use native.Mathlib.Omega.{arith}
use lib.ListN.{length}
use lib.IntN.{ℤ}
use Rattle.spanning.specs.Graph.{Conn, In, Tree, total}
use Rattle.arrays.specs.Order.{Sorted}
use Rattle.spanning.specs.Kruskal.{kruskal}
use Rattle.arrays.proofs.Members.{Distinct, sorted_distinct}
use Rattle.spanning.proofs.Count.{tree-count, forest-ends}
use Rattle.spanning.proofs.Degree.{tree-degree_pos}
use Rattle.plane.specs.Point.{Point, lower, Lower, dist, point_dec}
use Rattle.plane.specs.Edge.{Edge, planar}
use Rattle.plane.proofs.Order.{lower-order}
use Rattle.plane.proofs.Median.{sum_gap, median}
use Rattle.arrays.specs.Set.{put, union}
use Rattle.model.specs.Tree.{pairs, edges, mst, length_of, tree_length, edges_at}
use Rattle.arrays.proofs.Set.{put_in, put-sorted, put_or_free}
use Rattle.plane.proofs.Axis.{Connects}
use Rattle.model.specs.Tail.{length_with, tree_length_with}
use Rattle.model.proofs.Tree.{tree-edges}
use Rattle.model.proofs.Tail.{one_run_more, one_point_more}
use Rattle.model.proofs.Cover.{mst_cover}
use Rattle.model.proofs.Replace.{swap, swap_same, swap_other, replaced, star, sum_dist, replaced_conn, replaced_ends, replaced_length}
use Rattle.model.proofs.Replace.{star-count, star-edge}
use Rattle.model.specs.Choice.{Candidate}
use Rattle.model.proofs.Candidate.{map_in}

-- The sum of distances by the two axes.
sum_axes : (p : Point) (l : List Point)
    → sum_dist p l ≡ sum_gap p.x (map (λ (n : Point). n.x) l) + sum_gap p.y (map (λ (n : Point). n.y) l)
unfolding total dist sum_gap
sum_axes p [] = refl
sum_axes p (n ∷ l) = omega (arith, sum_axes p l)

module _ (ps : List Point) (rising : Sorted Lower ps) (q : Point) (far : ¬ Memᴰ q ps) (t : List Edge) (tree : Tree planar (q ∷ ps) t) where
  -- A neighbour of q in the tree is held.
  neighbour_held : (n : Point) → Memᴰ n (star q t) → Memᴰ n ps
  unfolding planar
  neighbour_held n i =
      ⊎_elim
      (λ c. held (λ e. loop (sym c.0 ∙ sym e ∙ c.1)) (subst⁻¹ (λ (z : Point). Memᴰ z (q ∷ ps)) c.1 (tree.ends f.0 f.1).1))
      (λ c. held (λ e. loop (sym c.1 ∙ e ∙ c.0)) (subst⁻¹ (λ (z : Point). Memᴰ z (q ∷ ps)) c.1 (tree.ends f.0 f.1).0))
      f.2
    where
      f : (e : Edge) × Memᴰ e t × (((q ≡ e.lo) × (n ≡ e.hi)) ⊎ ((q ≡ e.hi) × (n ≡ e.lo)))
      f = star-edge q n t i

      loop : ¬ (f.0.lo ≡ f.0.hi)
      loop = forest-ends planar t tree.forest f.0 f.1

      held : ¬ (n ≡ q) → Memᴰ n (q ∷ ps) → Memᴰ n ps
      held m j = ⊎_elim (λ e. absurd (m e)) (λ k. k) (cases j)

  -- With c on held lines and no farther from the neighbours, the tree of the held points and c is no longer.
  moved : (c : Point) → sum_dist c (star q t) ≤ sum_dist q (star q t) → tree_length (put lower c ps) ≤ length_of t
  moved c h =
      le_trans
      (mst_cover (put lower c ps) (put-sorted lower lower-order c ps rising) (replaced q c t)
      (replaced_ends q c (q ∷ ps) (put lower c ps) t along (λ e i. ends e i)) connects)
      (omega (arith, replaced_length q c t))
    where
      ends : (e : Edge) → Memᴰ e t → Memᴰ e.lo (q ∷ ps) × Memᴰ e.hi (q ∷ ps)
      ends e i = unfold planar in tree.ends e i

      along : (u : Point) → Memᴰ u (q ∷ ps) → Memᴰ (swap q c u) (put lower c ps)
      along u i = by (point_dec u q) (cases i)
        where
          by : Dec (u ≡ q) → (u ≡ q) ⊎ Memᴰ u ps → Memᴰ (swap q c u) (put lower c ps)
          by (yes e) m = subst⁻¹ (λ (z : Point). Memᴰ z (put lower c ps)) (swap_same q c u e) ((put_in lower lower-order c c ps).1 (inl refl))
          by (no n) (inl e) = absurd (n e)
          by (no n) (inr j) = subst⁻¹ (λ (z : Point). Memᴰ z (put lower c ps)) (swap_other q c u n) ((put_in lower lower-order c u ps).1 (inr j))

      -- every point of the new set comes from one of the old
      from : (u : Point) → Memᴰ u (put lower c ps) → (w : Point) × Memᴰ w (q ∷ ps) × (swap q c w ≡ u)
      from u i =
          ⊎_elim (λ e. (q, head refl, swap_same q c q refl ∙ sym e))
          (λ j. (u, later j, swap_other q c u (λ e. far (subst (λ (z : Point). Memᴰ z ps) e j)))) ((put_in lower lower-order c u ps).0 i)

      connects : Connects (put lower c ps) (replaced q c t)
      connects u v i j =
          let a = from u i in
          let b = from v j in
          subst (λ (z : Point). Conn planar (In (replaced q c t)) v z) a.2
          (subst (λ (z : Point). Conn planar (In (replaced q c t)) z (swap q c a.0)) b.2
          (replaced_conn q c t (tree.spans a.0 b.0 a.1 b.1)))

  -- The median point of q's neighbours, one of which is n.
  pub grid : (k : ℕ) (n : Point) → Memᴰ n (star q t) → ((c : Point) → Candidate ps c → tree_length ps ≤ tree_length (put lower c ps) + k)
      → tree_length ps ≤ length_of t + k
  grid k n i none =
      ⊎_elim (λ e. omega (arith, subst (λ (z : List Point). tree_length z ≤ length_of t) e short))
      (λ free. omega (arith, none c (record { on_x = on_x; on_y = on_y; free = free }), short)) (put_or_free lower lower-order c ps rising)
    where
      xs : List ℤ
      xs = map (λ (m : Point). m.x) (star q t)

      ys : List ℤ
      ys = map (λ (m : Point). m.y) (star q t)

      mx : (m : ℤ) × Memᴰ m xs × (sum_gap m xs ≤ sum_gap q.x xs)
      mx = median q.x n.x xs ((map_in (λ (m : Point). m.x) (star q t) n.x).1 (n, i, refl))

      my : (m : ℤ) × Memᴰ m ys × (sum_gap m ys ≤ sum_gap q.y ys)
      my = median q.y n.y ys ((map_in (λ (m : Point). m.y) (star q t) n.y).1 (n, i, refl))

      c : Point
      c = record { x = mx.0; y = my.0 }

      short : tree_length (put lower c ps) ≤ length_of t
      short = moved c (omega (arith, sum_axes c (star q t), sum_axes q (star q t), mx.2, my.2))

      on_x : (a : Point) × Memᴰ a ps × (c.x ≡ a.x)
      on_x = let r = (map_in (λ (m : Point). m.x) (star q t) mx.0).0 mx.1 in (r.0, neighbour_held r.0 r.1, r.2)

      on_y : (b : Point) × Memᴰ b ps × (c.y ≡ b.y)
      on_y = let r = (map_in (λ (m : Point). m.y) (star q t) my.0).0 my.1 in (r.0, neighbour_held r.0 r.1, r.2)

-- No points, no length.
no_length : tree_length [] ≡ 0
unfolding total kruskal union pairs edges mst tree_length
no_length = refl

no_length_with : (tail : ℕ) → tree_length_with tail [] ≡ 0
unfolding total kruskal union pairs edges mst tree_length_with
no_length_with tail = refl

joined_distinct : (ps : List Point) → Sorted Lower ps → (q : Point) → ¬ Memᴰ q ps → Distinct (q ∷ ps)
joined_distinct ps rising q far = ((λ u i e. far (subst⁻¹ (λ (z : Point). Memᴰ z ps) e i)), sorted_distinct lower-order ps rising)

-- No candidate shortens the tree by more than k, so no whole point does.
pub grid_theorem : (k : ℕ) (ps : List Point) → Sorted Lower ps → ((c : Point) → Candidate ps c → tree_length ps ≤ tree_length (put lower c ps) + k)
    → (q : Point) → ¬ Memᴰ q ps → (t : List Edge) → Tree planar (q ∷ ps) t → tree_length ps ≤ length_of t + k
grid_theorem k [] rising none q far t tree = omega (arith, no_length)
grid_theorem k (p ∷ ps) rising none q far t tree = go (star q t) refl
  where
    busy : 1 ≤ edges_at q t
    busy = tree-degree_pos planar (q ∷ p ∷ ps) t (joined_distinct (p ∷ ps) rising q far) tree (omega arith) q (head refl)

    go : (l : List Point) → star q t ≡ l → tree_length (p ∷ ps) ≤ length_of t + k
    go [] e = absurd (omega (arith, star-count q t, ap length e, busy))
    go (n ∷ l) e = grid (p ∷ ps) rising q far t tree k n (subst⁻¹ (λ (z : List Point). Memᴰ n z) e (head refl)) none

-- The same with tails: one point more is one run more, so a candidate has to shorten the distances by more than two tails.
pub grid_with_tails : (tail : ℕ) (ps : List Point) → Sorted Lower ps
    → ((c : Point) → Candidate ps c → tree_length_with tail ps ≤ tree_length_with tail (put lower c ps))
    → (q : Point) → ¬ Memᴰ q ps → (t : List Edge) → Tree planar (q ∷ ps) t → tree_length_with tail ps ≤ length_with tail t
unfolding tree_length_with
grid_with_tails tail [] rising none q far t tree = omega (arith, no_length_with tail)
grid_with_tails tail (p ∷ ps) rising none q far t tree =
    omega (
      arith,
      grid_theorem (2 * tail) (p ∷ ps) rising shorter q far t tree,
      one_run_more tail (mst (p ∷ ps)) t
          (omega (arith, tree-edges (p ∷ ps) rising, tree-count planar (q ∷ p ∷ ps) t (joined_distinct (p ∷ ps) rising q far) tree (omega arith))),
      unfolded,
    )
  where
    unfolded : tree_length (p ∷ ps) ≡ length_of (mst (p ∷ ps))
    unfolded = unfold tree_length in refl

    shorter : (c : Point) → Candidate (p ∷ ps) c → tree_length (p ∷ ps) ≤ tree_length (put lower c (p ∷ ps)) + 2 * tail
    shorter c k = omega (arith, none c k, one_point_more tail (p ∷ ps) rising (omega arith) c k.free)
