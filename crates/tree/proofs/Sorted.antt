-- Where the points rise with their numbers, the keys of the tree are the edges of THE tree, in its order. By renaming: a number
-- stands for its point, and one comparison of keys is the whole order of runs.
use mathlib.Core.Path.{◌≡◌, refl, sym, ap, ◌∙◌, subst}
use mathlib.Core.Logic.{⊎_elim}
use mathlib.Core.List.Memᴰ.{cases_cons as cases}
use mathlib.Core.List.Memᴰ.{head}
use mathlib.Core.List.Memᴰ.{tail}
use mathlib.Core.List.{List, [], ◌∷◌, ◌++◌, map, Memᴰ}
use mathlib.Core.List.Memᴰ
use mathlib.Core.List.Memᴰ.{not-nil}
use Prim.Native.Nat.{ℕ, zero, suc, ◌≤◌, ◌<◌}
use native.Mathlib.Decide.{dec_lt}
use native.Mathlib.Omega.{arith}
use lib.Dec.{T, ltb, ltb→lt}
use Rattle.spanning.specs.Graph.{degree}
use Rattle.arrays.specs.Order.{Sorted}
use Rattle.spanning.specs.Kruskal.{kruskal}
use Rattle.arrays.proofs.Members.{sorted_ext}
use Rattle.spanning.proofs.Rename.{Renamed, kruskal_rename, degree_rename}
use Rattle.spanning.proofs.Kruskal.{kruskal_in}
use Rattle.plane.specs.Point.{Point, Lower, dist}
use Rattle.plane.specs.Edge.{Edge, Rising, listed_before, Before, planar}
use Rattle.plane.proofs.Order.{lower-order, before-order, shorter-before}
use Rattle.plane.proofs.EdgeAtPoint.{level, listed-lo, listed-hi}
use Rattle.model.specs.Tree.{edges, mst, edges_at}
use Rattle.model.proofs.Tree.{edges_in, edges-sorted}
use Rattle.model.proofs.Candidate.{map_in}
use Rattle.keys.specs.Keys.{key, key_graph, edge_of, all_keys, tree_keys}
use Rattle.arrays.specs.Tab.{tab}
use Rattle.tree.specs.Build.{Rises}
use Rattle.keys.proofs.All.{KeyAt, all_keys_in, all_keys-sorted, key-ends}
use Rattle.arrays.proofs.Tab.{tab_in}

sorted_snoc : {A : Type 0} (R : A → A → Type 0) (l : List A) (a : A) → Sorted R l → ((b : A) → Memᴰ b l → R b a) → Sorted R (l ++ (a ∷ []))
sorted_snoc R [] a s h = (λ b i. absurd (not-nil i), tt)
sorted_snoc R (x ∷ l) a s h = (
  λ b i. ⊎_elim (s.0 b) (λ j. ⊎_elim (λ e. rw e (h x (head refl))) (λ k. absurd (not-nil k)) (cases j)) (Memᴰ.append_cases l i),
  sorted_snoc R l a s.1 (λ b i. h b (tail i)),
)

pub tab-sorted : (at : ℕ → Point) (n : ℕ) → Rises at n → Sorted Lower (tab at n)
unfolding tab
tab-sorted at zero h = tt
tab-sorted at (suc n) h =
    sorted_snoc Lower (tab at n) (at n) (tab-sorted at n (λ i j l m. h i j l (omega arith)))
    (λ p i. let r = (tab_in at n p).0 i in rw r.2 (h r.0 n r.1 (omega arith)))

-- A sorted list stays sorted under a map that keeps the order of its members.
sorted-map : {A B : Type 0} (R : A → A → Type 0) (S : B → B → Type 0) (f : A → B) (l : List A)
    → ((a b : A) → Memᴰ a l → Memᴰ b l → R a b → S (f a) (f b)) → Sorted R l → Sorted S (map f l)
sorted-map R S f [] h s = tt
sorted-map R S f (a ∷ l) h s = (
  λ b i. let r = (map_in f l b).0 i in rw r.2 (h a r.0 (head refl) (tail r.1) (s.0 r.0 r.1)),
  sorted-map R S f l (λ x y i j. h x y (tail i) (tail j)) s.1,
)

module _ (at : ℕ → Point) (n : ℕ) (small : n ≤ 128) (rises : Rises at n) where
  ps : List Point
  ps = tab at n

  pub ps_sorted : Sorted Lower (tab at n)
  ps_sorted = tab-sorted at n rises

  edge_of_lem : (k : ℕ) (r : KeyAt at n k) → edge_of at k ≡ record { lo = at r.i; hi = at r.j }
  edge_of_lem k r = let e = key-ends at n k small r in λ t. record { lo = at (e.0 t); hi = at (e.1 t) }

  -- One comparison of keys is the order of runs.
  key-before : (k k' : ℕ) → KeyAt at n k → KeyAt at n k' → k < k' → Before (edge_of at k) (edge_of at k')
  key-before k k' r r' h =
      rw (edge_of_lem k r) (rw (edge_of_lem k' r') (go (dec_lt d d') (dec_lt r.i r'.i)))
    where
      d : ℕ
      d = dist (at r.i) (at r.j)

      d' : ℕ
      d' = dist (at r'.i) (at r'.j)

      e : Edge
      e = record { lo = at r.i; hi = at r.j }

      e' : Edge
      e' = record { lo = at r'.i; hi = at r'.j }

      go : Dec (d < d') → Dec (r.i < r'.i) → Before e e'
      go (yes l) c = shorter-before e e' l
      go (no l) (yes c) =
          level e e' (omega arith)
          (listed-lo (at r.i) (at r.j) (at r'.i) (at r'.j) (rises r.i r'.i c (omega arith)))
      go (no l) (no c) =
          let q : r.i ≡ r'.i = omega arith in
          let m : r.j < r'.j = omega arith in
          level e e' (omega arith)
          (subst (λ (z : ℕ). T (listed_before e (record { lo = at z; hi = at r'.j }))) q
          (listed-hi (at r.i) (at r.j) (at r'.j) (rises r.j r'.j m r'.below)))

  mapped_sorted : Sorted Before (map (edge_of at) (all_keys at n))
  mapped_sorted =
      sorted-map (λ (a b : ℕ). T (ltb a b)) Before (edge_of at) (all_keys at n)
      (λ a b i j h. key-before a b ((all_keys_in at n a).0 i) ((all_keys_in at n b).0 j) (ltb→lt a b h)) (all_keys-sorted at n)

  -- All keys are all edges.
  mapped_edges : map (edge_of at) (all_keys at n) ≡ edges (tab at n)
  mapped_edges =
      sorted_ext before-order (map (edge_of at) (all_keys at n)) (edges (tab at n)) mapped_sorted (edges-sorted (tab at n) ps_sorted) to from
    where
      to : (e : Edge) → Memᴰ e (map (edge_of at) (all_keys at n)) → Memᴰ e (edges (tab at n))
      to e i =
          let m = (map_in (edge_of at) (all_keys at n) e).0 i in
          let r = (all_keys_in at n m.0).0 m.1 in
          rw (m.2 ∙ edge_of_lem m.0 r) ((edges_in (tab at n) ps_sorted (record { lo = at r.i; hi = at r.j })).1
          ((tab_in at n (at r.i)).1 (r.i, omega arith, refl), (tab_in at n (at r.j)).1 (r.j, r.below, refl), rises r.i r.j r.less r.below))

      from : (e : Edge) → Memᴰ e (edges (tab at n)) → Memᴰ e (map (edge_of at) (all_keys at n))
      from e m =
          let b = (edges_in (tab at n) ps_sorted e).0 m in
          let a = (tab_in at n e.lo).0 b.0 in
          let z = (tab_in at n e.hi).0 b.1 in
          found a.0 z.0 a.1 z.1 a.2 z.2 b.2 (dec_lt a.0 z.0)
        where
          found : (i j : ℕ) → i < n → j < n → e.lo ≡ at i → e.hi ≡ at j → Rising e → Dec (i < j) → Memᴰ e (map (edge_of at) (all_keys at n))
          found i j hi hj ei ej up (yes l) =
              let r : KeyAt at n (key (dist (at i) (at j)) i j) = record { i = i; j = j; less = l; below = hj; same = refl } in
              (map_in (edge_of at) (all_keys at n) e).1 (
                key (dist (at i) (at j)) i j,
                (all_keys_in at n (key (dist (at i) (at j)) i j)).1 r,
                (λ t. record { lo = ei t; hi = ej t }) ∙ sym (edge_of_lem (key (dist (at i) (at j)) i j) r),
              )
          found i j hi hj ei ej up (no l) = absurd (wrong (dec_lt j i))
            where
              up' : Lower (at i) (at j)
              up' = rw ei at (rw ej at up)

              wrong : Dec (j < i) → ⊥
              wrong (yes k) = lower-order.irrefl (at i) (lower-order.trans (at i) (at j) (at i) up' (rises j i k hi))
              wrong (no k) = let q : i ≡ j = omega arith in lower-order.irrefl (at j) (rw q at up')

  -- Two different numbers have different points.
  pub one_to_one : (u v : ℕ) → u < n → v < n → at u ≡ at v → u ≡ v
  one_to_one u v hu hv e = go (dec_lt u v) (dec_lt v u)
    where
      go : Dec (u < v) → Dec (v < u) → u ≡ v
      go (yes l) d = absurd (lower-order.irrefl (at v) (rw e at (rises u v l hv)))
      go (no l) (yes m) = absurd (lower-order.irrefl (at v) (rw e at (rises v u m hu)))
      go (no l) (no m) = omega arith

  -- A key's edge runs between the points of its numbers.
  renamed : (k : ℕ) → Memᴰ k (all_keys at n) → Renamed key_graph planar at (edge_of at) (λ (i : ℕ). i < n) k
  unfolding key_graph planar
  renamed k i =
      let r = (all_keys_in at n k).0 i in
      let e = key-ends at n k small r in
      record {
        lo = refl;
        hi = refl;
        lo_in = rw e.0 (omega arith);
        hi_in = rw e.1 r.below;
      }

  -- The keys of the tree are the edges of THE tree.
  pub tree_keys-mst : map (edge_of at) (tree_keys at n) ≡ mst (tab at n)
  unfolding tree_keys mst
  tree_keys-mst =
      sym (kruskal_rename key_graph planar at (edge_of at) (λ (i : ℕ). i < n) one_to_one [] (all_keys at n) (λ e i. absurd (not-nil i)) renamed)
      ∙ ap (kruskal planar []) mapped_edges

  -- The number of keys at a number is that of the edges at its point.
  pub tree_keys-degree : (i : ℕ) → i < n → degree key_graph i (tree_keys at n) ≡ edges_at (at i) (mst (tab at n))
  unfolding tree_keys
  tree_keys-degree i h =
      sym (degree_rename key_graph planar at (edge_of at) (λ (j : ℕ). j < n) one_to_one (kruskal key_graph [] (all_keys at n))
      (λ k m. renamed k (kruskal_in key_graph [] (all_keys at n) k m)) i h)
      ∙ ap (degree planar (at i)) tree_keys-mst
