-- Which keys stand in the list of all keys, that it is sorted, and that each key connects its two numbers.
use mathlib.Core.Path.{◌≡◌, refl, ap, ap₂, ◌∙◌, subst}
use mathlib.Core.Logic.{◌⊎◌, inl, inr, ⊎_elim, ◌↔◌}
use mathlib.Core.List.Memᴰ.{cases_cons as cases}
use mathlib.Core.List.Memᴰ.{head}
use mathlib.Core.List.Memᴰ.{not-nil}
use mathlib.Core.List.Memᴰ.{tail}
use mathlib.Core.List.{◌∷◌, Memᴰ}
use Prim.Native.Nat.{ℕ, zero, suc, ◌≤◌, ◌<◌}
use native.Mathlib.Decide.{ℕ_discrete, dec_lt}
use native.Mathlib.Omega.{arith}
use lib.Dec.{T, ltb}
use Rattle.spanning.specs.Graph.{Conn, stop, In}
use Rattle.arrays.specs.Order.{Sorted}
use Rattle.spanning.proofs.Conn.{conn_edge, conn_sym}
use Rattle.plane.specs.Point.{Point, dist}
use Rattle.arrays.proofs.Order.{nat_order}
use Rattle.arrays.specs.Set.{union}
use Rattle.arrays.proofs.Set.{union_in, union-sorted}
use Rattle.keys.specs.Keys.{key, low, high, key_graph, rays, all_keys}
use Rattle.keys.proofs.Parts.{key-low, key-high}

-- The keys to c are those from each point.
pub rays_in : (at : ℕ → Point) (c : Point) (n j k : ℕ) → Memᴰ k (rays at c n j) ↔ ((i : ℕ) × (i < j) × (k ≡ key (dist (at i) c) i n))
unfolding rays
rays_in at c n zero k = (λ i. absurd (not-nil i), λ r. absurd (omega arith))
rays_in at c n (suc j) k = (
  λ i. ⊎_elim (λ e. (j, omega arith, e)) (λ t. let r = (rays_in at c n j k).0 t in (r.0, omega arith, r.2)) (cases i),
  λ r. go r.0 r.1 r.2 (ℕ_discrete r.0 j) (λ i h e. (rays_in at c n j k).1 (i, h, e)),
)
  where
    go : (i : ℕ) → i < suc j → k ≡ key (dist (at i) c) i n → Dec (i ≡ j)
        → ((i : ℕ) → i < j → k ≡ key (dist (at i) c) i n → Memᴰ k (rays at c n j))
        → Memᴰ k (key (dist (at j) c) j n ∷ rays at c n j)
    go i h e (yes q) rec = head (e ∙ ap (λ (z : ℕ). key (dist (at z) c) z n) q)
    go i h e (no q) rec = tail (rec i (omega arith) e)

-- A key of an edge between two of the first n points.
pub record KeyAt (at : ℕ → Point) (n k : ℕ) : Type 0 where
  pub i : ℕ
  pub j : ℕ
  pub less : i < j
  pub below : j < n
  pub same : k ≡ key (dist (at i) (at j)) i j

module _ (at : ℕ → Point) where
  pub all_keys_in : (n k : ℕ) → Memᴰ k (all_keys at n) ↔ KeyAt at n k
  unfolding all_keys
  all_keys_in zero k = (λ i. absurd (not-nil i), λ r. absurd (omega arith))
  all_keys_in (suc n) k = (
    λ m. ⊎_elim (λ r. let h = (rays_in at (at n) n n k).0 r in record { i = h.0; j = n; less = h.1; below = omega arith; same = h.2 })
        (λ r. up ((all_keys_in n k).0 r)) ((union_in ltb nat_order (rays at (at n) n n) (all_keys at n) k).0 m),
    λ r. (union_in ltb nat_order (rays at (at n) n n) (all_keys at n) k).1 (go r (ℕ_discrete r.j n) (λ q. (all_keys_in n k).1 q)),
  )
    where
      up : KeyAt at n k → KeyAt at (suc n) k
      up r = record { i = r.i; j = r.j; less = r.less; below = omega arith; same = r.same }

      go : (r : KeyAt at (suc n) k) → Dec (r.j ≡ n) → (KeyAt at n k → Memᴰ k (all_keys at n))
          → Memᴰ k (rays at (at n) n n) ⊎ Memᴰ k (all_keys at n)
      go r (yes e) rec =
          inl ((rays_in at (at n) n n k).1 (r.i, omega arith, r.same ∙ ap (λ (z : ℕ). key (dist (at r.i) (at z)) r.i z) e))
      go r (no e) rec = inr (rec (record { i = r.i; j = r.j; less = r.less; below = omega arith; same = r.same }))

  pub all_keys-sorted : (n : ℕ) → Sorted (λ (a b : ℕ). T (ltb a b)) (all_keys at n)
  unfolding all_keys
  all_keys-sorted zero = tt
  all_keys-sorted (suc n) = union-sorted ltb nat_order (rays at (at n) n n) (all_keys at n) (all_keys-sorted n)

  -- The numbers of a key.
  pub key-ends : (n k : ℕ) → n ≤ 128 → (r : KeyAt at n k) → (low k ≡ r.i) × (high k ≡ r.j)
  key-ends n k h r = (
    ap low r.same ∙ key-low (dist (at r.i) (at r.j)) r.i r.j (omega arith) (omega arith),
    ap high r.same ∙ key-high (dist (at r.i) (at r.j)) r.i r.j (omega arith) (omega arith),
  )

  -- Any two of the first n numbers are connected by all keys.
  pub all_keys_join : (n : ℕ) → n ≤ 128 → (u v : ℕ) → u < n → v < n → Conn key_graph (In (all_keys at n)) v u
  unfolding key_graph
  all_keys_join n h u v hu hv = go (dec_lt u v) (dec_lt v u)
    where
      one : (i j : ℕ) → i < j → j < n → Conn key_graph (In (all_keys at n)) j i
      one i j l b =
          let r : KeyAt at n (key (dist (at i) (at j)) i j) = record { i = i; j = j; less = l; below = b; same = refl } in
          let e = key-ends n (key (dist (at i) (at j)) i j) h r in
          rw e.1 at (subst (λ (z : ℕ). Conn key_graph (In (all_keys at n)) (high (key (dist (at i) (at j)) i j)) z) e.0
          (conn_edge (key (dist (at i) (at j)) i j) ((all_keys_in n (key (dist (at i) (at j)) i j)).1 r)))

      go : Dec (u < v) → Dec (v < u) → Conn key_graph (In (all_keys at n)) v u
      go (yes a) d = one u v a hv
      go (no a) (yes b) = conn_sym (one v u b hu)
      go (no a) (no b) = let e : u ≡ v = omega arith in stop e

-- The keys depend on the first n points alone.
pub rays_same : (at at' : ℕ → Point) (c : Point) (n j : ℕ) → ((i : ℕ) → i < j → at i ≡ at' i) → rays at c n j ≡ rays at' c n j
unfolding rays
rays_same at at' c n zero h = refl
rays_same at at' c n (suc j) h =
    ap₂ ◌∷◌ (ap (λ (p : Point). key (dist p c) j n) (h j (omega arith))) (rays_same at at' c n j (λ i l. h i (omega arith)))

pub all_keys_same : (at at' : ℕ → Point) (n : ℕ) → ((i : ℕ) → i < n → at i ≡ at' i) → all_keys at n ≡ all_keys at' n
unfolding all_keys
all_keys_same at at' zero h = refl
all_keys_same at at' (suc n) h =
    ap₂ (union ltb) (rays_same at at' (at n) n n (λ i l. h i (omega arith)) ∙ ap (λ (p : Point). rays at' p n n) (h n (omega arith)))
    (all_keys_same at at' n (λ i l. h i (omega arith)))
