-- Stored coordinates: stored and whole numbers correspond, in the same order, and so do the two bytes of a file. By natural
-- numbers: `coordinate u` is u less 30,000, and each claim is then a step of arithmetic.
use mathlib.Core.Path.{◌≡◌, sym, ap, ◌∙◌, subst}
use mathlib.Core.Logic.{◌⊎◌, inl, inr, ⊎_elim, ◌↔◌}
use mathlib.Core.Bool.{true, false}
use Prim.Native.Nat.{ℕ, ◌+◌, ◌*◌, ◌-◌, ◌/◌, ◌%◌, ◌≤◌, ◌<◌}
use native.Mathlib.Nat.{le_antisymm}
use native.Mathlib.Omega.{arith}
use native.Mathlib.Decide.{dec_lt, dec_le}
use lib.Dec.{T, ltb, ltb→lt, nltb→le, lt→ltb, le→leb}
use lib.IntN.{ℤ, pos, nat_abs, ◌+ℤ◌}
use lib.Signed.{lt_z}
use borrow.Author.Tests.{lt-ltb, le-ltb, ltb-false}
use Rattle.arrays.specs.Test.{then_by}
use Rattle.plane.specs.Point.{limit, coordinate_in_range, lower, gap}
use Rattle.plane.specs.Coordinate.{coordinate, stored_of, signed16, word16}
use Rattle.plane.specs.Stored.{point_at}
use Rattle.arrays.proofs.Test.{then_by_cases, same_test}
use Rattle.plane.proofs.Range.{range_values}
use Rattle.plane.proofs.Whole.{plus, minus, one_sided, abs_value, sub_value, add_value, whole_ext, less_value, value_less, gap_ge, gap-le}

-- The whole number of a stored coordinate.
pub coordinate_value : (u : ℕ) → plus (coordinate u) + 30000 ≡ u + minus (coordinate u)
unfolding coordinate
coordinate_value u = sub_value u 30000

-- A stored coordinate and its whole number come in the same order; so no two share a whole number.
pub coordinate-rises : (u v : ℕ) → u < v → T (lt_z (coordinate u) (coordinate v))
coordinate-rises u v h = value_less (coordinate u) (coordinate v) (omega (arith, coordinate_value u, coordinate_value v))

pub rises-coordinate : (u v : ℕ) → T (lt_z (coordinate u) (coordinate v)) → u < v
rises-coordinate u v t = omega (arith, coordinate_value u, coordinate_value v, less_value (coordinate u) (coordinate v) t)

pub coordinate-order : (u v : ℕ) → (u < v) ↔ T (lt_z (coordinate u) (coordinate v))
coordinate-order u v = (coordinate-rises u v, rises-coordinate u v)

pub coordinate_less : (u v : ℕ) → lt_z (coordinate u) (coordinate v) ≡ ltb u v
coordinate_less u v =
    same_test (lt_z (coordinate u) (coordinate v)) (ltb u v) (λ t. lt→ltb u v (rises-coordinate u v t)) (λ t. coordinate-rises u v (ltb→lt u v t))

pub coordinate_injective : (u v : ℕ) → coordinate u ≡ coordinate v → u ≡ v
coordinate_injective u v e = omega (arith, coordinate_value u, coordinate_value v, ap plus e, ap minus e)

-- The distance along an axis of two stored coordinates.
pub gap-rising : (u v : ℕ) → u ≤ v → gap (coordinate u) (coordinate v) ≡ v - u
gap-rising u v h =
    le_antisymm
    (gap-le (coordinate u) (coordinate v) (v - u) (omega (arith, coordinate_value u, coordinate_value v))
    (omega (arith, coordinate_value u, coordinate_value v)))
    (omega (arith, coordinate_value u, coordinate_value v, gap_ge (coordinate u) (coordinate v)))

pub gap_falling : (u v : ℕ) → v ≤ u → gap (coordinate u) (coordinate v) ≡ u - v
gap_falling u v h =
    le_antisymm
    (gap-le (coordinate u) (coordinate v) (u - v) (omega (arith, coordinate_value u, coordinate_value v))
    (omega (arith, coordinate_value u, coordinate_value v)))
    (omega (arith, coordinate_value u, coordinate_value v, gap_ge (coordinate u) (coordinate v)))

pub gap-stored : (u v : ℕ) → (u - v) + (v - u) ≡ gap (coordinate u) (coordinate v)
gap-stored u v = go (dec_le u v)
  where
    go : Dec (u ≤ v) → (u - v) + (v - u) ≡ gap (coordinate u) (coordinate v)
    go (yes h) = omega (arith, gap-rising u v h)
    go (no n) = let h : v ≤ u = omega arith in omega (arith, gap_falling u v h)

-- Which of two points is lower, on their stored coordinates.
pub lower-stored : (ax ay bx by : ℕ) → lower (point_at ax ay) (point_at bx by) ≡ then_by (ltb ax bx) (ltb bx ax) (λ _. ltb ay by)
unfolding lower
lower-stored ax ay bx by = simp coordinate_less

-- Where the first coordinates differ, they decide.
pub unequal_first : (ax ay bx by : ℕ) → (ax ≡ bx → ⊥) → then_by (ltb ax bx) (ltb bx ax) (λ _. ltb ay by) ≡ ltb ax bx
unequal_first ax ay bx by n = go (dec_lt ax bx)
  where
    go : Dec (ax < bx) → then_by (ltb ax bx) (ltb bx ax) (λ _. ltb ay by) ≡ ltb ax bx
    go (yes h) = simp (lt-ltb ax bx h)
    go (no h) = simp (le-ltb ax bx (omega arith), lt-ltb bx ax (omega arith))

pub lower_true : (ax ay bx by : ℕ) → lower (point_at ax ay) (point_at bx by) ≡ true → (ax < bx) ⊎ ((ax ≡ bx) × (ay < by))
lower_true ax ay bx by e =
    ⊎_elim (λ h. inl (ltb→lt ax bx h)) (λ c. inr (omega (arith, nltb→le ax bx c.0, nltb→le bx ax c.1), ltb→lt ay by c.2))
    (then_by_cases (ltb ax bx) (ltb bx ax) (λ _. ltb ay by) (subst T (sym e ∙ lower-stored ax ay bx by) tt))

pub lower_false : (ax ay bx by : ℕ) → lower (point_at ax ay) (point_at bx by) ≡ false → (bx < ax) ⊎ ((ax ≡ bx) × (by ≤ ay))
lower_false ax ay bx by e = go (dec_lt bx ax) (dec_lt ax bx)
  where
    test : then_by (ltb ax bx) (ltb bx ax) (λ _. ltb ay by) ≡ false
    test = sym (lower-stored ax ay bx by) ∙ e

    go : Dec (bx < ax) → Dec (ax < bx) → (bx < ax) ⊎ ((ax ≡ bx) × (by ≤ ay))
    go (yes h) k = inl h
    go (no h) (yes k) = absurd (subst T (sym (unequal_first ax ay bx by (λ q. omega arith)) ∙ test) (lt→ltb ax bx k))
    go (no h) (no k) =
        let s : ltb ay by ≡ false = simp (le-ltb ax bx (omega arith), le-ltb bx ax (omega arith)) at test in
        inr (omega arith, ltb-false ay by s)

-- A coordinate in range, from two bounds.
pub value_range : (z : ℤ) → minus z ≤ plus z + 30000 → plus z ≤ minus z + 30000 → T (coordinate_in_range z)
value_range z h k = le→leb (nat_abs z) limit (⊎_elim (λ e. omega (arith, abs_value z)) (λ e. omega (arith, abs_value z)) (one_sided z))

-- The absolute value of a whole number that is moved up far enough.
pub moved : (z : ℤ) (n : ℕ) → minus z ≤ plus z + n → nat_abs (z +ℤ pos n) + minus z ≡ plus z + n
moved z n h =
    ⊎_elim (λ e. omega (arith, add_value z (pos n), abs_value (z +ℤ pos n))) (λ e. omega (arith, add_value z (pos n), abs_value (z +ℤ pos n)))
    (one_sided (z +ℤ pos n))

pub stored_value : (z : ℤ) → minus z ≤ plus z + 30000 → stored_of z + minus z ≡ plus z + 30000
unfolding stored_of
stored_value z h = moved z 30000 h

-- The stored form of a whole number in range, and back.
pub coordinate-stored : (z : ℤ) → T (coordinate_in_range z) → coordinate (stored_of z) ≡ z
coordinate-stored z t =
    let h = range_values z t in
    whole_ext (coordinate (stored_of z)) z (omega (arith, coordinate_value (stored_of z), stored_value z (omega arith)))

pub stored-bound : (z : ℤ) → T (coordinate_in_range z) → stored_of z ≤ 60000
stored-bound z t = let h = range_values z t in omega (arith, stored_value z (omega arith))

pub coordinate_range : (u : ℕ) → u ≤ 60000 → T (coordinate_in_range (coordinate u))
coordinate_range u h = value_range (coordinate u) (omega (arith, coordinate_value u)) (omega (arith, coordinate_value u))

-- This one holds of every natural number u, as no coordinate u is below −30,000.
pub stored-coordinate : (u : ℕ) → stored_of (coordinate u) ≡ u
stored-coordinate u = omega (arith, coordinate_value u, stored_value (coordinate u) (omega (arith, coordinate_value u)))

-- The whole number of two bytes.
pub signed_value : (low high : ℕ) → plus (signed16 low high) + 65536 * (high / 128) ≡ low + 256 * high + minus (signed16 low high)
unfolding signed16
signed_value low high = sub_value (low + 256 * high) (65536 * (high / 128))

-- The 16 bits of a stored coordinate.
pub word_stored : (u : ℕ) → word16 (coordinate u) ≡ (u + 35536) % 65536
unfolding word16
word_stored u =
    ap (λ (n : ℕ). n % 65536) (omega (arith, coordinate_value u, moved (coordinate u) 65536 (omega (arith, coordinate_value u))))

-- The two bytes of a coordinate in range are read as the same number, and two bytes that are read are written again.
pub signed_word : (z : ℤ) → T (coordinate_in_range z) → signed16 (word16 z % 256) (word16 z / 256 % 256) ≡ z
signed_word z t =
    subst (λ (y : ℤ). signed16 (word16 y % 256) (word16 y / 256 % 256) ≡ y) (coordinate-stored z t)
    (go (stored_of z) (stored-bound z t) (word16 (coordinate (stored_of z))) (word_stored (stored_of z)))
  where
    go : (u : ℕ) → u ≤ 60000 → (w : ℕ) → w ≡ (u + 35536) % 65536 → signed16 (w % 256) (w / 256 % 256) ≡ coordinate u
    go u h w e =
        let high : w / 256 % 256 ≡ w / 256 = omega arith in
        ap (signed16 (w % 256)) high
        ∙ whole_ext (signed16 (w % 256) (w / 256)) (coordinate u) (omega (arith, signed_value (w % 256) (w / 256), coordinate_value u))

pub word_signed : (a b : ℕ) → a < 256 → b < 256 → word16 (signed16 a b) ≡ a + 256 * b
unfolding word16
word_signed a b h k = ⊎_elim (λ e. omega (arith, v, m)) (λ e. omega (arith, v, m)) (one_sided (signed16 a b))
  where
    v : plus (signed16 a b) + 65536 * (b / 128) ≡ a + 256 * b + minus (signed16 a b)
    v = signed_value a b

    m : nat_abs (signed16 a b +ℤ pos 65536) + minus (signed16 a b) ≡ plus (signed16 a b) + 65536
    m = moved (signed16 a b) 65536 (⊎_elim (λ e. omega (arith, v)) (λ e. omega (arith, v)) (one_sided (signed16 a b)))
