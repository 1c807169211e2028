-- The rays to all held points, by a few of them: those of which one is no longer than the ray to a point, and leads no farther from it
-- than the crossing is. Then the few and all have the same least weight, since each key of the one closes a walk among the other.
use mathlib.Core.Path.{◌≡◌, refl, ap, ◌∙◌}
use mathlib.Core.Logic.{◌⊎◌, inl, inr, ⊎_elim, ◌↔◌, dite}
use mathlib.Core.List.Memᴰ.{head}
use mathlib.Core.List.Memᴰ.{tail}
use mathlib.Core.List.{List, [], ◌∷◌, Memᴰ}
use mathlib.Core.List.Memᴰ
use mathlib.Core.List.Memᴰ.{append_cases}
use mathlib.Core.List.Memᴰ.{eq_of_singleton}
use Prim.Native.Nat.{ℕ, ◌+◌, ◌≤◌, ◌<◌}
use native.Mathlib.Decide.{dec_lt}
use native.Mathlib.Omega.{arith}
use lib.Dec.{ltb}
use Rattle.spanning.specs.Graph.{Conn, stop, total}
use Rattle.spanning.specs.Bottleneck.{Within}
use Rattle.spanning.proofs.Conn.{conn_edge, conn_sym, conn_trans, conn_mono}
use Rattle.arrays.proofs.Members.{sorted_ext}
use Rattle.spanning.proofs.OneMore.{one_more_closed}
use Rattle.plane.specs.Point.{Point, dist}
use Rattle.arrays.proofs.Order.{nat_order}
use Rattle.plane.proofs.Metric.{dist_sym}
use Rattle.arrays.specs.Set.{put, union}
use Rattle.arrays.proofs.Set.{put_in, put-sorted, union_in, union-sorted}
use Rattle.keys.specs.Keys.{key, weight, low, high, key_graph, rays, all_keys, tree_keys, joined_keys}
use Rattle.keys.proofs.Parts as keys
use Rattle.keys.proofs.All.{rays_in, KeyAt, all_keys_in, all_keys-sorted, key-ends, all_keys_join}
use Rattle.regions.specs.Rays.{places, ray, ray_length, ray_point, far, far_ray}
use Rattle.score.specs.Gain.{gain}
use Rattle.score.proofs.Bounds.{key_of, with_far, starred, Rays, Rising, Walk, key-edge, key-weight, key_conn, Plain, starred_in, starred_sorted}
use Rattle.score.proofs.Bounds.{ray_walk, plain_walk}
use Rattle.score.proofs.Gains.{light, least_weight, gains}

-- The rays of a list are those of points to the crossing c, or of no point; and for each held point one leads no farther round.
pub record Nearby (at : ℕ → Point) (c : Point) (n : ℕ) (ks : List ℕ) : Type 0 where
  pub edges : (k : ℕ) → Memᴰ k ks → (k ≡ far_ray) ⊎ ((j : ℕ) × (j < n) × (k ≡ ray (dist (at j) c) j))
  pub covers : (j : ℕ) → j < n
      → (k : ℕ) × Memᴰ k ks × (ray_length k ≤ dist (at j) c) × (dist (at (ray_point k)) (at j) ≤ dist (at j) c)

-- Keys whose ends keys no heavier connect change no least weight.
closed_keys : (l S : List ℕ) → Rising S → ((k : ℕ) → Memᴰ k l → Conn key_graph (Within weight S (weight k)) (key_graph.hi k) (key_graph.lo k))
    → least_weight (union ltb l S) ≡ least_weight S
unfolding union
closed_keys [] S s c = refl
closed_keys (k ∷ l) S s c =
    let rest : List ℕ = union ltb l S in
    let sorted = union-sorted ltb nat_order l S s in
    one_more_closed key_graph nat_order weight light rest (put ltb k rest) k sorted (put-sorted ltb nat_order k rest sorted)
    (λ f. put_in ltb nat_order k f rest)
    (conn_mono (λ z m. ((union_in ltb nat_order l S z).1 (inr m.0), m.1)) (c k (head refl)))
    ∙ closed_keys l S s (λ j m. c j (tail m))

module _ (at : ℕ → Point) (n : ℕ) (small : n < places) where
  -- The key of an edge between two of the points.
  edge-key : (k : ℕ) (r : KeyAt at n k) → (low k ≡ r.i) × (high k ≡ r.j) × (weight k ≡ dist (at r.i) (at r.j))
  edge-key k r =
      let e = key-ends at n k (omega arith) r in
      let d = dist (at r.i) (at r.j) in
      (e.0, e.1, ap weight r.same ∙ keys.key-weight d r.i r.j (omega arith) (omega arith))

  edge_walk : (x i j : ℕ) → i < j → j < n → dist (at i) (at j) ≤ x → Walk (all_keys at n) x j i
  edge_walk x i j l b h =
      let k : ℕ = key (dist (at i) (at j)) i j in
      let r : KeyAt at n k = record { i = i; j = j; less = l; below = b; same = refl } in
      let e = edge-key k r in
      key-edge k e.0 e.1 ((all_keys_in at n k).1 r, omega arith)

  -- Two held points are connected by edges as long as their distance.
  straight : (i j x : ℕ) → i < n → j < n → dist (at i) (at j) ≤ x → Walk (all_keys at n) x j i
  straight i j x hi hj h =
      dite (dec_lt i j) (λ l. edge_walk x i j l hj h)
      (λ l. dite (dec_lt j i) (λ m. conn_sym (edge_walk x j i m hi (omega (arith, dist_sym (at j) (at i))))) (λ m. let e : i ≡ j = omega arith in stop e))

  pub all_plain : {t : ℕ → ℕ → ℕ} → 0 < n → ((i j : ℕ) → dist (at i) (at j) ≤ far)
      → ((u v : ℕ) → u < n → v < n → (x : ℕ) → (t u v ≤ x) ↔ Walk (all_keys at n) x v u) → Plain (all_keys at n) n t
  all_plain some close table =
      record {
        some = some;
        small = small;
        sorted = all_keys-sorted at n;
        inside = λ k m.
            let r = (all_keys_in at n k).0 m in
            let e = edge-key k r in
            omega (arith, r.below, close r.i r.j);
        joins = all_keys_join at n (omega arith);
        table = table;
      }

module _ {at : ℕ → Point} {n : ℕ} {t : ℕ → ℕ → ℕ} (p : Plain (all_keys at n) n t) {c : Point} (near : (i : ℕ) → dist (at i) c ≤ far) {ks : List ℕ}
    (nearby : Nearby at c n ks) where
  -- The keys of the few rays, and of all.
  few : List ℕ
  few = starred (all_keys at n) n ks

  all : List ℕ
  all = union ltb (rays at c n n) (all_keys at n)

  few_in : (z : ℕ) → Memᴰ z few ↔ (((k : ℕ) × Memᴰ k (with_far ks) × (z ≡ key_of n k)) ⊎ Memᴰ z (all_keys at n))
  unfolding few
  few_in = starred_in p ks

  few-sorted : Rising few
  unfolding few
  few-sorted = starred_sorted p ks

  all_in : (z : ℕ) → Memᴰ z all ↔ (Memᴰ z (rays at c n n) ⊎ Memᴰ z (all_keys at n))
  unfolding all
  all_in z = union_in ltb nat_order (rays at c n n) (all_keys at n) z

  all_sorted : Rising all
  unfolding all
  all_sorted = union-sorted ltb nat_order (rays at c n n) (all_keys at n) p.sorted

  held-rays : Rays n ks
  held-rays k m = ⊎_elim (λ e. omega arith) (λ r. omega arith) (nearby.edges k m)

  -- A walk to the point of a ray is one between the ends of its key.
  ray_closed : {S : ℕ → Type 0} (d j : ℕ) → j < n → Conn key_graph S n j
      → Conn key_graph S (key_graph.hi (key_of n (ray d j))) (key_graph.lo (key_of n (ray d j)))
  ray_closed {S} d j h w = let e : ray_point (ray d j) ≡ j = omega arith in (key_conn p.small (ray d j) S).0 (rw e w)

  -- The ray to each point closes a walk of the few: by the one that covers the point, and on from there.
  rays_closed : (k : ℕ) → Memᴰ k (rays at c n n) → Conn key_graph (Within weight few (weight k)) (key_graph.hi k) (key_graph.lo k)
  unfolding few
  rays_closed k m =
      let r = (rays_in at c n n k).0 m in
      let j = r.0 in
      let v = nearby.covers j r.1 in
      let d = key-weight p.small (ray (dist (at j) c) j) in
      rw r.2 (ray_closed (dist (at j) c) j r.1
      (conn_mono (λ z i. (i.0, omega arith))
      (conn_trans (ray_walk p ks v.0 (dist (at j) c) (Memᴰ.append_left (far_ray ∷ []) v.1) v.2)
      (plain_walk p ks (conn_sym (straight at n p.small (ray_point v.0) j (dist (at j) c) (held-rays v.0 v.1) r.1 v.3))))))

  -- The key of a ray to a point is among all, and the ray of length `far` closes a walk by that to point 0.
  ray_all : (j : ℕ) → j < n → Memᴰ (key_of n (ray (dist (at j) c) j)) all
  ray_all j h = (all_in _).1 (inl ((rays_in at c n n _).1 (j, h, refl)))

  few_closed : (k : ℕ) → Memᴰ k few → Conn key_graph (Within weight all (weight k)) (key_graph.hi k) (key_graph.lo k)
  few_closed k m = ⊎_elim (λ r. rw r.2 (spoke r.0 r.1)) (λ i. conn_edge k ((all_in k).1 (inr i), omega arith)) ((few_in k).0 m)
    where
      point : (j : ℕ) → j < n → (x : ℕ) → dist (at j) c ≤ x → Walk all x n j
      point j h x l =
          let e : low (key_of n (ray (dist (at j) c) j)) ≡ j = omega arith in
          key-edge (key_of n (ray (dist (at j) c) j)) e (omega arith) (ray_all j h, omega arith)

      spoke : (z : ℕ) → Memᴰ z (with_far ks) → Conn key_graph (Within weight all (weight (key_of n z))) (key_graph.hi (key_of n z)) (key_graph.lo (key_of n z))
      spoke z i =
          ⊎_elim
          (λ e. rw e (ray_closed far 0 p.some (point 0 p.some _ (omega (arith, near 0)))))
          (λ r. rw r.2 (conn_edge _ (ray_all r.0 r.1, omega arith)))
          (⊎_elim (nearby.edges z) (λ s. inl (eq_of_singleton s)) (append_cases ks i))

  same_keys : union ltb (rays at c n n) few ≡ union ltb few all
  same_keys =
      sorted_ext nat_order (union ltb (rays at c n n) few) (union ltb few all)
      (union-sorted ltb nat_order (rays at c n n) few few-sorted) (union-sorted ltb nat_order few all all_sorted)
      (λ z m. (union_in ltb nat_order few all z).1 (⊎_elim (λ r. inr ((all_in z).1 (inl r))) inl ((union_in ltb nat_order (rays at c n n) few z).0 m)))
      (λ z m. (union_in ltb nat_order (rays at c n n) few z).1
      (⊎_elim inr (λ a. ⊎_elim inl (λ i. inr ((few_in z).1 (inr i))) ((all_in z).0 a)) ((union_in ltb nat_order few all z).0 m)))

  pub joined-weight : total weight (joined_keys at c n) + gain t ks ≡ far + total weight (tree_keys at n)
  unfolding joined_keys tree_keys few all
  joined-weight =
      omega (
        arith,
        closed_keys (rays at c n n) few few-sorted rays_closed,
        ap least_weight same_keys,
        closed_keys few all all_sorted few_closed,
        gains p ks held-rays,
      )
