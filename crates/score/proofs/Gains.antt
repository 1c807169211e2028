-- The rays of a crossing, added one after the other: each lowers the least weight by its gain, so that the least weight with the
-- crossing is that of the tree, and the length `far`, less the gains.
use mathlib.Core.Path.{◌≡◌, refl}
use mathlib.Core.List.Memᴰ.{head}
use mathlib.Core.List.Memᴰ.{tail}
use mathlib.Core.List.{List, [], ◌∷◌}
use Prim.Native.Nat.{ℕ, ◌+◌, ◌-◌, ◌≤◌}
use native.Mathlib.Omega.{arith}
use lib.Dec.{T, ltb, ltb→lt}
use Rattle.spanning.specs.Graph.{Conn, stop, fwd, bwd, In, total}
use Rattle.spanning.specs.Kruskal.{kruskal}
use Rattle.spanning.specs.Bottleneck.{Within}
use Rattle.spanning.proofs.OneMore.{one_more, one_more_bridge}
use Rattle.arrays.proofs.Order.{nat_order}
use Rattle.arrays.specs.Set.{put, union}
use Rattle.arrays.proofs.Set.{put_in}
use Rattle.keys.specs.Keys.{weight, key_graph}
use Rattle.keys.proofs.Parts.{weight-le}
use Rattle.regions.specs.Rays.{ray_length, ray_point, far, far_ray}
use Rattle.score.specs.Gain.{bound, gain}
use Rattle.score.proofs.Bounds.{key_of, starred, Rays, key-weight, key_conn, Plain, starred_sorted, bound_bottleneck}

-- A smaller key is no longer.
pub light : (a b : ℕ) → T (ltb a b) → weight a ≤ weight b
light a b h = weight-le a b (ltb→lt a b h)

-- The least weight over a list of keys.
abbrev pub least_weight : List ℕ → ℕ
least_weight keys = total weight (kruskal key_graph [] keys)

module _ {all : List ℕ} {n : ℕ} {t : ℕ → ℕ → ℕ} (p : Plain all n t) where
  -- One ray more.
  one_gain : (k : ℕ) (ks : List ℕ) → Rays n (k ∷ ks)
      → least_weight (starred all n (k ∷ ks)) + (bound t ks (ray_point k) - ray_length k) ≡ least_weight (starred all n ks)
  unfolding union
  one_gain k ks rays =
      let S : List ℕ = starred all n ks in
      let e : ℕ = key_of n k in
      omega (
        arith,
        key-weight p.small k,
        one_more key_graph nat_order weight light S (put ltb e S) e (starred_sorted p ks) (starred_sorted p (k ∷ ks)) (λ f. put_in ltb nat_order e f S)
            (bound t ks (ray_point k)) (λ x l.
            let r = bound_bottleneck p ks (λ z m. rays z (tail m)) (ray_point k) x (rays k (head refl)) in
            let c = key_conn p.small k (Within weight S x) in
            (λ h. c.0 (r.0 h), λ d. r.1 (c.1 d))),
      )

  -- No plain key leads to the crossing, so the ray of length `far` adds its length.
  away : {u : ℕ} → ¬ (u ≡ n) → Conn key_graph (In all) n u → ⊥
  unfolding key_graph
  away ne (stop e) = ne e
  away ne (fwd z m e c) = away (λ q. omega (arith, (p.inside z m).1)) c
  away ne (bwd z m e c) = away (λ q. omega (arith, (p.inside z m).0)) c

  pub gains : (ks : List ℕ) → Rays n ks → least_weight (starred all n ks) + gain t ks ≡ far + least_weight all
  unfolding gain union
  gains [] rays =
      let e : ℕ = key_of n far_ray in
      omega (
        arith,
        key-weight p.small far_ray,
        one_more_bridge key_graph nat_order weight light all (put ltb e all) e p.sorted (starred_sorted p []) (λ f. put_in ltb nat_order e f all)
            (λ c. away (omega arith) ((key_conn p.small far_ray (In all)).1 c)),
      )
  gains (k ∷ ks) rays = omega (arith, gains ks (λ z m. rays z (tail m)), one_gain k ks rays)
