-- One point's rays offered row by row: a row more sets one place of each of two sides, and what stands at the others stays.
use mathlib.Core.Path.{◌≡◌, refl, ◌∙◌}
use mathlib.Core.Logic.{dite}
use mathlib.Core.Bool.{Bool}
use mathlib.Core.List.{List}
use Prim.Native.Nat.{ℕ, ◌+◌, ◌-◌, ◌≤◌, ◌<◌, max}
use native.Mathlib.Decide.{ℕ_discrete}
use native.Mathlib.Omega.{arith}
use borrow.Author.Count.{below_more}
use borrow.Author.Tests.{lt-ltb, le-ltb}
use lib.Dec.{ltb}
use lib.ListN.{length, get_or, set, length-set}
use lib.Seq.{get_or-set_same, get_or-set_other}
use Rattle.arrays.specs.Test.{if}
use Rattle.regions.specs.Rays.{far_ray}
use Rattle.regions.specs.Nearest.{Complements, Offered, RelaxGiven, Relaxed}

-- An offer that counts where A holds too, which does, by other names for what stood there before and stands there now.
pub offered_in : {A P : Type 0} {k a b a' b' : ℕ} → A → a' ≡ a → b' ≡ b → Offered P k a b → Offered (A × P) k a' b'
offered_in h ea eb o = record { taken = λ q. rw (ea, eb) (o.taken q.1); unchanged = λ n. rw (ea, eb) (o.unchanged (λ q. n (h, q))) }

-- The complement of a ray, less a part added to the ray.
pub complement_less : (along : ℕ) {complement : ℕ} (d : ℕ) → complement ≡ far_ray - along → complement - d ≡ far_ray - (along + d)
complement_less along d e = omega arith

-- The offers of a point by the test of its two differences, k the complement of its ray.
module _ {along d k : ℕ} {t : Bool} (ek : k ≡ far_ray - (along + d)) (et : t ≡ ltb along d) {old m v : ℕ} (ev : v ≡ max old m) where
  pub offered_steep : m ≡ if t (λ _. k) (λ _. 0) → Offered (along < d) (along + d) old v
  offered_steep em =
      record { taken = λ h. omega (arith, simp (et, lt-ltb along d h) at em); unchanged = λ n. omega (arith, simp (et, le-ltb along d (omega arith)) at em) }

  pub offered_flat : m ≡ if t (λ _. 0) (λ _. k) → Offered (d ≤ along) (along + d) old v
  offered_flat em =
      record { taken = λ h. omega (arith, simp (et, le-ltb along d h) at em); unchanged = λ n. omega (arith, simp (et, lt-ltb along d (omega arith)) at em) }

-- A complement set among complements.
complements-set : {l : List ℕ} (i v : ℕ) → Complements l → i < length l → v ≤ far_ray → Complements (set l i v)
complements-set {l} i v p h s =
    record {
      size = length-set l i v ∙ p.size;
      low = λ k. dite (ℕ_discrete k i) (λ e. rw (e, get_or-set_same l i v 0 h) s) (λ n. rw (get_or-set_other l i k v 0 n) (p.low k));
    }

module _ {gaps : List ℕ} {start from to along complement : ℕ} {old : List ℕ} {steep flat : ℕ}
    (p : RelaxGiven gaps start from to along complement old steep flat) where
  pub relax_none : Relaxed gaps start from from along steep flat old old
  relax_none = record { complements = p.complements; on_steep = λ r l h. absurd (omega arith); on_flat = λ r l h. absurd (omega arith); rest = λ i f. refl }

  pub relax_end : {r : ℕ} {new : List ℕ} → r ≤ to → to ≤ r → Relaxed gaps start from r along steep flat old new
      → Relaxed gaps start from to along steep flat old new
  relax_end {r} h l q = let e : r ≡ to = omega arith in rw (← e) q

  pub relax_more : {r : ℕ} {new : List ℕ} → from ≤ r → r < to → Relaxed gaps start from r along steep flat old new → {v w : ℕ} → v ≤ far_ray → w ≤ far_ray
      → Offered (along < get_or gaps (start + r) 0) (along + get_or gaps (start + r) 0) (get_or new (steep + r) 0) v
      → Offered (get_or gaps (start + r) 0 ≤ along) (along + get_or gaps (start + r) 0) (get_or new (flat + r) 0) w
      → Relaxed gaps start from (r + 1) along steep flat old (set (set new (steep + r) v) (flat + r) w)
  relax_more {r} {new} h l q {v} {w} sv sw ov ow =
      record {
        complements = complements-set (flat + r) w (complements-set (steep + r) v q.complements in_steep sv) in_flat sw;
        on_steep = below_more _ r (λ i m g. rw (other (steep + i) (omega arith) (omega arith)) (q.on_steep i m g))
            (λ g. rw (now_steep, ← q.rest (steep + r) (λ i a b. omega arith)) ov);
        on_flat = below_more _ r (λ i m g. rw (other (flat + i) (omega arith) (omega arith)) (q.on_flat i m g))
            (λ g. rw (get_or-set_same mid (flat + r) w 0 in_flat, ← q.rest (flat + r) (λ i a b. omega arith)) ow);
        rest = λ i f. other i (f r h (omega arith)).0 (f r h (omega arith)).1 ∙ q.rest i (λ k a b. f k a (omega arith));
      }
    where
      mid : List ℕ
      mid = set new (steep + r) v

      in_steep : steep + r < length new
      in_steep = omega arith

      in_flat : flat + r < length (set new (steep + r) v)
      in_flat = omega (arith, length-set new (steep + r) v, q.complements.size)

      now_steep : get_or (set (set new (steep + r) v) (flat + r) w) (steep + r) 0 ≡ v
      now_steep = get_or-set_other (set new (steep + r) v) (flat + r) (steep + r) w 0 (omega arith) ∙ get_or-set_same new (steep + r) v 0 in_steep

      other : (i : ℕ) → ¬ (i ≡ steep + r) → ¬ (i ≡ flat + r) → get_or (set (set new (steep + r) v) (flat + r) w) i 0 ≡ get_or new i 0
      other i s f = get_or-set_other (set new (steep + r) v) (flat + r) i w 0 f ∙ get_or-set_other new (steep + r) i v 0 s
