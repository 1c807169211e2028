-- For different points in any order, the total of the tree's keys is the length of the tree of the point set: each is a cover of
-- the other's graph, so that neither is longer. With it, the length of the tree with one more point, whatever its number.
use mathlib.Core.Path.{◌≡◌, refl, sym, ap, ◌∙◌, subst, subst⁻¹}
use mathlib.Core.Logic.{⊎_elim, ◌↔◌, dite}
use mathlib.Core.List.Memᴰ.{cases_cons as cases}
use mathlib.Core.List.Memᴰ.{head}
use mathlib.Core.List.Memᴰ.{tail}
use mathlib.Core.List.{List, [], ◌∷◌, map, Memᴰ}
use mathlib.Core.List.Memᴰ.{not-nil}
use Prim.Native.Nat.{ℕ, zero, suc, ◌≤◌, ◌<◌}
use native.Mathlib.Decide.{ℕ_discrete, dec_lt}
use native.Mathlib.Nat.{le_antisymm, le_trans}
use native.Mathlib.Omega.{arith}
use lib.Dec.{ltb→lt}
use Rattle.spanning.specs.Graph.{Conn, In, total}
use Rattle.arrays.specs.Order.{Sorted}
use Rattle.spanning.specs.Kruskal.{kruskal}
use Rattle.spanning.proofs.Conn.{conn_edge, conn_sym, conn_mono, conn_map}
use Rattle.spanning.proofs.Kruskal.{kruskal_in, kruskal_connects}
use Rattle.spanning.proofs.Cover.{cover}
use Rattle.spanning.proofs.Rename.{total_rename}
use Rattle.plane.specs.Point.{Point, Lower, dist, point_dec}
use Rattle.plane.specs.Edge.{Edge, Rising, edge_length, planar}
use Rattle.arrays.proofs.Order.{nat_order}
use Rattle.plane.proofs.Order.{lower-order}
use Rattle.plane.proofs.Metric.{dist_sym}
use Rattle.model.specs.Tree.{mst, length_of, tree_length, RunTree}
use Rattle.model.proofs.Tree.{mst-run-tree}
use Rattle.plane.proofs.Axis.{Connects}
use Rattle.model.proofs.Cover.{Ends, mst_cover}
use Rattle.model.proofs.Candidate.{map_in}
use Rattle.keys.specs.Keys.{key, weight, high, key_graph, edge_of, all_keys, tree_keys}
use Rattle.keys.proofs.Parts.{key-weight, weight-le}
use Rattle.keys.proofs.All.{KeyAt, all_keys_in, all_keys-sorted, key-ends, all_keys_join}

-- The number of a point among the first n (n where it is not among them).
index : (ℕ → Point) → ℕ → Point → ℕ
index at zero p = zero
index at (suc n) p = dite (point_dec (at n) p) (λ _. n) (λ _. index at n p)

module _ (at : ℕ → Point) (n : ℕ) (small : n ≤ 128) (one : (u v : ℕ) → u < n → v < n → at u ≡ at v → u ≡ v)
    (qs : List Point) (rising : Sorted Lower qs) (members : (p : Point) → Memᴰ p qs ↔ ((i : ℕ) × (i < n) × (p ≡ at i))) where
  index_of : (m : ℕ) → m ≤ n → (i : ℕ) → i < m → index at m (at i) ≡ i
  unfolding index
  index_of zero h i l = absurd (omega arith)
  index_of (suc m) h i l = go (point_dec (at m) (at i)) (λ q. index_of m (omega arith) i q)
    where
      go : (d : Dec (at m ≡ at i)) → (i < m → index at m (at i) ≡ i) → dite d (λ _. m) (λ _. index at m (at i)) ≡ i
      go (yes e) rec = one m i (omega arith) (omega arith) e
      go (no e) rec = rec (split (ℕ_discrete i m))
        where
          split : Dec (i ≡ m) → i < m
          split (yes q) = absurd (e (ap at (sym q)))
          split (no q) = omega arith

  number : Point → ℕ
  number p = index at n p

  number_at : (i : ℕ) → i < n → number (at i) ≡ i
  unfolding number
  number_at i l = index_of n (omega arith) i l

  -- The keys of a list of edges between the points: no heavier, and they join the numbers of each edge's ends.
  record Keyed (t : List Edge) : Type 0 where
    list : List ℕ
    inside : (k : ℕ) → Memᴰ k list → Memᴰ k (all_keys at n)
    light : total weight list ≤ length_of t
    links : (e : Edge) → Memᴰ e t → Conn key_graph (In list) (number e.hi) (number e.lo)

  keyed : (t : List Edge) → Ends qs t → ((e : Edge) → Memᴰ e t → Rising e) → Keyed t
  unfolding total
  keyed [] h up = record { list = []; inside = λ k i. absurd (not-nil i); light = omega arith; links = λ e i. absurd (not-nil i) }
  keyed (e ∷ t) h up =
      let b = h e (head refl) in
      let x = (members e.lo).0 b.0 in
      let y = (members e.hi).0 b.1 in
      by (keyed t (λ f i. h f (tail i)) (λ f i. up f (tail i))) x.0 y.0 x.1 y.1 x.2 y.2 (dec_lt x.0 y.0) (dec_lt y.0 x.0)
    where
      with : Keyed t → (i j : ℕ) → i < j → j < n → dist (at i) (at j) ≡ edge_length e
          → ((S : ℕ → Type 0) → Conn key_graph S j i → Conn key_graph S (number e.hi) (number e.lo)) → Keyed (e ∷ t)
      with r i j l l' d walk =
          record {
            list = k ∷ r.list;
            inside = λ z m. ⊎_elim (λ q. rw q ((all_keys_in at n k).1 is)) (r.inside z) (cases m);
            light = omega arith;
            links = λ f m. ⊎_elim (λ q. rw q (walk (In (k ∷ r.list)) step))
                (λ m'. conn_mono (λ z q. tail q) (r.links f m')) (cases m);
          }
        where
          k : ℕ
          k = key (dist (at i) (at j)) i j

          is : KeyAt at n k
          is = record { i = i; j = j; less = l; below = l'; same = refl }

          step : Conn key_graph (In (k ∷ r.list)) j i
          step =
              unfold key_graph in
              (let q = key-ends at n k small is in
              rw q.1 at (subst (λ (z : ℕ). Conn key_graph (In (k ∷ r.list)) (high k) z) q.0 (conn_edge k (head refl))))

      numbers : (i j : ℕ) → i < n → j < n → e.lo ≡ at i → e.hi ≡ at j → (S : ℕ → Type 0)
          → Conn key_graph S j i → Conn key_graph S (number e.hi) (number e.lo)
      numbers i j hi hj ei ej S w =
          rw (ap number ej ∙ number_at j hj) (rw (ap number ei ∙ number_at i hi) w)

      by : Keyed t → (i j : ℕ) → i < n → j < n → e.lo ≡ at i → e.hi ≡ at j → Dec (i < j) → Dec (j < i) → Keyed (e ∷ t)
      by r i j hi hj ei ej (yes l) d = with r i j l hj (λ q. dist (sym ei q) (sym ej q)) (numbers i j hi hj ei ej)
      by r i j hi hj ei ej (no l) (yes m) =
          with r j i m hi (dist_sym (at j) (at i) ∙ (λ q. dist (sym ei q) (sym ej q))) (λ S w. numbers i j hi hj ei ej S (conn_sym w))
      by r i j hi hj ei ej (no l) (no m) =
          absurd (lower-order.irrefl e.hi (rw (ei ∙ ap at (same) ∙ sym ej) at (up e (head refl))))
        where
          same : i ≡ j
          same = omega arith

  -- The tree's edges as keys cover all keys.
  keys_shorter : total weight (tree_keys at n) ≤ tree_length qs
  unfolding tree_keys tree_length planar key_graph
  keys_shorter =
      le_trans
      (cover key_graph nat_order weight (λ a b h. weight-le a b (ltb→lt a b h)) (all_keys at n) r.list (all_keys-sorted at n) r.inside
      (λ k i. let q = (all_keys_in at n k).0 i in
      let e = key-ends at n k small q in
      rw e.1 (rw e.0 (connected q.i q.j (omega arith) q.below))))
      r.light
    where
      tree : RunTree qs (mst qs)
      tree = mst-run-tree qs rising

      r : Keyed (mst qs)
      r = keyed (mst qs) tree.tree.ends tree.rising

      connected : (i j : ℕ) → i < n → j < n → Conn key_graph (In r.list) j i
      connected i j hi hj =
          rw (number_at j hj) at (rw (number_at i hi) at (conn_map number r.links
          (tree.tree.spans (at i) (at j) ((members (at i)).1 (i, hi, refl)) ((members (at j)).1 (j, hj, refl)))))

  -- The keys as edges cover the points.
  keys_longer : tree_length qs ≤ total weight (tree_keys at n)
  unfolding tree_keys planar key_graph
  keys_longer =
      le_trans (mst_cover qs rising (map (edge_of at) K) ends connects) (omega (arith, same_total))
    where
      K : List ℕ
      K = kruskal key_graph [] (all_keys at n)

      at_key : (k : ℕ) → Memᴰ k K → KeyAt at n k
      at_key k i = (all_keys_in at n k).0 (kruskal_in key_graph [] (all_keys at n) k i)

      held : (i : ℕ) → i < n → Memᴰ (at i) qs
      held i l = (members (at i)).1 (i, l, refl)

      same_total : total edge_length (map (edge_of at) K) ≡ total weight K
      same_total =
          total_rename weight edge_length (edge_of at) K
          (λ k i. let r = at_key k i in
          let e = key-ends at n k small r in
          (λ t. dist (at (e.0 t)) (at (e.1 t)))
          ∙ sym (ap weight r.same ∙ key-weight (dist (at r.i) (at r.j)) r.i r.j (omega arith) (omega arith)))

      ends : Ends qs (map (edge_of at) K)
      ends f i =
          let m = (map_in (edge_of at) K f).0 i in
          let r = at_key m.0 m.1 in
          let e = key-ends at n m.0 small r in (
            rw ((λ t. (m.2 t).lo) ∙ ap at e.0) (held r.i (omega arith)),
            rw ((λ t. (m.2 t).hi) ∙ ap at e.1) (held r.j r.below),
          )

      connects : Connects qs (map (edge_of at) K)
      connects u v i j =
          let a = (members u).0 i in
          let b = (members v).0 j in
          rw a.2 (subst⁻¹ (λ (z : Point). Conn planar (In (map (edge_of at) K)) z (at a.0)) b.2
          (conn_map at (λ k m. conn_edge (edge_of at k) ((map_in (edge_of at) K (edge_of at k)).1 (k, m, refl)))
          ((kruskal_connects key_graph (all_keys at n)).1 (all_keys_join at n small a.0 b.0 a.1 b.1))))

  pub tree_keys-total : total weight (tree_keys at n) ≡ tree_length qs
  tree_keys-total = le_antisymm keys_shorter keys_longer
