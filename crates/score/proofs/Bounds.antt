-- The bottleneck of the crossing and a held point goes over exactly one of the crossing's rays: a walk leaves the crossing by a ray,
-- and goes on by edges between held points, whose bottlenecks are known.
use mathlib.Core.Path.{◌≡◌, refl, sym, ap, ◌∙◌, subst}
use mathlib.Core.Logic.{◌⊎◌, inl, inr, ⊎_elim, ◌↔◌, dite}
use mathlib.Core.List.Memᴰ.{head}
use mathlib.Core.List.Memᴰ.{tail}
use mathlib.Core.List.{List, [], ◌∷◌, ◌++◌, map, Memᴰ}
use mathlib.Core.List.Memᴰ.{cases_cons as cases}
use mathlib.Core.List.Memᴰ.{not-nil}
use Prim.Native.Nat.{ℕ, ◌+◌, ◌*◌, ◌≤◌, ◌<◌, min, max}
use native.Mathlib.Decide.{dec_le}
use native.Mathlib.Omega.{arith}
use lib.Dec.{T, ltb}
use Rattle.spanning.specs.Graph.{Conn, stop, fwd, bwd, In}
use Rattle.arrays.specs.Order.{Sorted}
use Rattle.spanning.specs.Bottleneck.{Within}
use Rattle.spanning.proofs.Conn.{conn_edge, conn_sym, conn_trans, conn_mono}
use Rattle.arrays.proofs.Order.{nat_order}
use Rattle.arrays.specs.Set.{union}
use Rattle.model.proofs.Candidate.{map_in}
use Rattle.arrays.proofs.Set.{union_in, union-sorted}
use Rattle.keys.specs.Keys.{weight, low, high, key_graph}
use Rattle.regions.specs.Rays.{places, ray_length, ray_point, far, far_ray}
use Rattle.score.specs.Gain.{over, bound}

-- The key of a ray: it leads to the crossing, whose number is n.
abbrev pub key_of : ℕ → ℕ → ℕ
key_of n k = k * places + n

-- Rays, and that of no point behind them.
abbrev pub with_far : List ℕ → List ℕ
with_far ks = ks ++ (far_ray ∷ [])

-- The keys of these rays beside all keys.
abbrev pub starred : List ℕ → ℕ → List ℕ → List ℕ
starred all n ks = union ltb (map (key_of n) (with_far ks)) all

-- Each ray leads to a held point.
abbrev pub Rays : ℕ → List ℕ → Type 0
Rays n ks = (k : ℕ) → Memᴰ k ks → ray_point k < n

abbrev pub Rising : List ℕ → Type 0
Rising l = Sorted (λ (a b : ℕ). T (ltb a b)) l

-- Keys no heavier than x connect u and v.
abbrev pub Walk : List ℕ → ℕ → ℕ → ℕ → Type 0
Walk keys x v u = Conn key_graph (Within weight keys x) v u

-- A key connects its ends.
pub key-edge : {S : ℕ → Type 0} (z : ℕ) {u v : ℕ} → low z ≡ u → high z ≡ v → S z → Conn key_graph S v u
unfolding key_graph
key-edge z el eh s = rw (← el, ← eh) (conn_edge z s)

module _ {n : ℕ} (small : n < places) (k : ℕ) where
  pub key-weight : weight (key_of n k) ≡ ray_length k
  key-weight = omega arith

  key-low : low (key_of n k) ≡ ray_point k
  key-low = omega arith

  key-high : high (key_of n k) ≡ n
  key-high = omega arith

  -- The ends of a ray's key are its point and the crossing.
  pub key_conn : (S : ℕ → Type 0) → Conn key_graph S n (ray_point k) ↔ Conn key_graph S (key_graph.hi (key_of n k)) (key_graph.lo (key_of n k))
  unfolding key_graph
  key_conn S = (λ c. rw (key-high, key-low) c, λ c. rw (key-high, key-low) at c)

-- The keys in `all` connect all of the first n numbers, and no others, and none is longer than `far`; t has their bottlenecks.
pub record Plain (all : List ℕ) (n : ℕ) (t : ℕ → ℕ → ℕ) : Type 0 where
  pub some : 0 < n
  pub small : n < places
  pub sorted : Rising all
  pub inside : (k : ℕ) → Memᴰ k all → (low k < n) × (high k < n) × (weight k ≤ far)
  pub joins : (u v : ℕ) → u < n → v < n → Conn key_graph (In all) v u
  pub table : (u v : ℕ) → u < n → v < n → (x : ℕ) → (t u v ≤ x) ↔ Walk all x v u

-- One of two numbers is the smaller.
either : (a b x : ℕ) → min a b ≤ x → (a ≤ x) ⊎ (b ≤ x)
either a b x h = dite (dec_le a x) inl (λ l. inr (omega arith))

module _ {all : List ℕ} {n : ℕ} {t : ℕ → ℕ → ℕ} (p : Plain all n t) where
  -- The keys beside the plain ones are those of the rays.
  pub starred_in : (ks : List ℕ) (z : ℕ) → Memᴰ z (starred all n ks) ↔ (((k : ℕ) × Memᴰ k (with_far ks) × (z ≡ key_of n k)) ⊎ Memᴰ z all)
  starred_in ks z =
      let r = union_in ltb nat_order (map (key_of n) (with_far ks)) all z in
      let m = map_in (key_of n) (with_far ks) z in
      (λ i. ⊎_elim (λ k. inl (m.0 k)) inr (r.0 i), λ i. r.1 (⊎_elim (λ k. inl (m.1 k)) inr i))

  pub starred_sorted : (ks : List ℕ) → Rising (starred all n ks)
  starred_sorted ks = union-sorted ltb nat_order (map (key_of n) (with_far ks)) all p.sorted

  -- A ray connects its point and the crossing.
  pub ray_walk : (ks : List ℕ) (k x : ℕ) → Memᴰ k (with_far ks) → ray_length k ≤ x → Walk (starred all n ks) x n (ray_point k)
  ray_walk ks k x m h =
      key-edge (key_of n k) (key-low p.small k) (key-high p.small k)
      ((starred_in ks (key_of n k)).1 (inl (k, m, refl)), omega (arith, h, key-weight p.small k))

  pub plain_walk : (ks : List ℕ) {x u v : ℕ} → Walk all x v u → Walk (starred all n ks) x v u
  plain_walk ks = conn_mono (λ z m. ((starred_in ks z).1 (inr m.0), m.1))

  -- Held points that short keys connect have the same bounds.
  bound_moves : (ks : List ℕ) → Rays n ks → (x u v : ℕ) → u < n → v < n → Walk all x v u → bound t ks u ≤ x → bound t ks v ≤ x
  unfolding bound over
  bound_moves [] rays x u v hu hv c h = h
  bound_moves (k ∷ ks) rays x u v hu hv c h =
      let q = rays k (head refl) in
      ⊎_elim
      (λ l. omega (arith, (p.table (ray_point k) v q hv x).1 (conn_trans c ((p.table (ray_point k) u q hu x).0 (omega arith)))))
      (λ l. omega (arith, bound_moves ks (λ z m. rays z (tail m)) x u v hu hv c l))
      (either (max (ray_length k) (t (ray_point k) u)) (bound t ks u) x h)

  bound_walk : (ks : List ℕ) → Rays n ks → (q x : ℕ) → q < n → bound t ks q ≤ x → Walk (starred all n ks) x n q
  unfolding bound over
  bound_walk [] rays q x hq h =
      conn_trans (ray_walk [] far_ray x (head refl) h)
      (plain_walk [] (conn_mono (λ z m. (m, omega (arith, (p.inside z m).2))) (p.joins q 0 hq p.some)))
  bound_walk (k ∷ ks) rays q x hq h =
      ⊎_elim
      (λ l. conn_trans (ray_walk (k ∷ ks) k x (head refl) (omega arith))
      (plain_walk (k ∷ ks) (conn_sym ((p.table (ray_point k) q (rays k (head refl)) hq x).0 (omega arith)))))
      (λ l. conn_mono (λ z m. (more z m.0, m.1)) (bound_walk ks (λ z m. rays z (tail m)) q x hq l))
      (either (max (ray_length k) (t (ray_point k) q)) (bound t ks q) x h)
    where
      more : (z : ℕ) → Memᴰ z (starred all n ks) → Memᴰ z (starred all n (k ∷ ks))
      more z m = (starred_in (k ∷ ks) z).1 (⊎_elim (λ r. inl (r.0, tail r.1, r.2)) inr ((starred_in ks z).0 m))

  -- The point of a ray that is there is within the ray's length, and is held.
  bound-here : (ks : List ℕ) → Rays n ks → (k x : ℕ) → Memᴰ k (with_far ks) → ray_length k ≤ x → (ray_point k < n) × (bound t ks (ray_point k) ≤ x)
  unfolding bound over
  bound-here [] rays k x m h = ⊎_elim (λ e. omega arith) (λ i. absurd (not-nil i)) (cases m)
  bound-here (j ∷ ks) rays k x m h =
      ⊎_elim
      (λ e. let q = rays k (head e) in
      (q, omega (arith, ap ray_length e, subst (λ (z : ℕ). t (ray_point z) (ray_point k) ≤ x) e ((p.table (ray_point k) (ray_point k) q q x).1 (stop refl)))))
      (λ i. let r = bound-here ks (λ z l. rays z (tail l)) k x i h in (r.0, omega arith))
      (cases m)

  module _ (ks : List ℕ) (rays : Rays n ks) (x : ℕ) where
    -- Where a walk to the crossing starts: at the crossing, or within the bound.
    abbrev Starts : ℕ → Type 0
    Starts u = (u ≡ n) ⊎ ((u < n) × (bound t ks u ≤ x))

    -- An edge at whose other end a walk starts.
    starts_step : (z a b : ℕ) → Within weight (starred all n ks) x z → ((low z ≡ a) × (high z ≡ b)) ⊎ ((low z ≡ b) × (high z ≡ a)) → Starts b → Starts a
    starts_step z a b m ends r = ⊎_elim spoke (λ q. plain q r) ((starred_in ks z).0 m.0)
      where
        spoke : (k : ℕ) × Memᴰ k (with_far ks) × (z ≡ key_of n k) → Starts a
        spoke q =
            let h = bound-here ks rays q.0 x q.1 (omega (arith, ap weight q.2, key-weight p.small q.0)) in
            ⊎_elim
            (λ e. subst (λ (y : ℕ). Starts y) (sym (ap low q.2 ∙ key-low p.small q.0) ∙ e.0) (inr h))
            (λ e. inl (sym e.1 ∙ ap high q.2 ∙ key-high p.small q.0))
            ends

        plain : Memᴰ z all → Starts b → Starts a
        plain q (inl e) = absurd (⊎_elim (λ s. omega (arith, (p.inside z q).1)) (λ s. omega (arith, (p.inside z q).0)) ends)
        plain q (inr h) = inr (below, bound_moves ks rays x b a h.0 below (⊎_elim (λ e. conn_sym (edge e)) edge ends) h.1)
          where
            below : a < n
            below = ⊎_elim (λ s. omega (arith, (p.inside z q).0)) (λ s. omega (arith, (p.inside z q).1)) ends

            edge : {u v : ℕ} → (low z ≡ u) × (high z ≡ v) → Walk all x v u
            edge e = key-edge z e.0 e.1 (q, m.1)

    walk_bound : {q : ℕ} → Walk (starred all n ks) x n q → Starts q
    unfolding key_graph
    walk_bound (stop e) = inl e
    walk_bound (fwd z m e c) = starts_step z _ _ m (inl (sym e, refl)) (walk_bound c)
    walk_bound (bwd z m e c) = starts_step z _ _ m (inr (refl, sym e)) (walk_bound c)

  -- The bound is the bottleneck of the crossing and the point q.
  pub bound_bottleneck : (ks : List ℕ) → Rays n ks → (q x : ℕ) → q < n → (bound t ks q ≤ x) ↔ Walk (starred all n ks) x n q
  bound_bottleneck ks rays q x hq = (bound_walk ks rays q x hq, λ c. ⊎_elim (λ e. absurd (omega arith)) (λ r. r.1) (walk_bound ks rays x c))
