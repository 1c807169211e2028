-- The distance is a metric: symmetric, 0 at one place alone, with the triangle inequality; and it adds up between.
use mathlib.Core.Path.{◌≡◌, refl, ap₂, subst}
use Prim.Native.Nat.{ℕ, zero, suc, ◌+◌, ◌-◌, ◌≤◌}
use native.Mathlib.Nat.{le_antisymm}
use native.Mathlib.Omega.{arith}
use lib.Dec.{T}
use lib.IntN.{ℤ}
use lib.Signed.{le_z}
use Rattle.plane.specs.Point.{Point, gap, dist, Lower}
use Rattle.plane.proofs.Whole.{plus, minus, whole_ext, AtMost, gap_ge, gap-le, atmost_value}
use Rattle.plane.proofs.Order.{lower-order}

pub gap_sym : (a b : ℤ) → gap a b ≡ gap b a
gap_sym a b =
    le_antisymm (gap-le a b (gap b a) (gap_ge b a).1 (gap_ge b a).0) (gap-le b a (gap a b) (gap_ge a b).1 (gap_ge a b).0)

pub gap_self : (a : ℤ) → gap a a ≡ 0
gap_self a = omega (arith, gap-le a a 0 (omega arith) (omega arith))

pub gap-zero : (a b : ℤ) → gap a b ≡ 0 → a ≡ b
gap-zero a b e = whole_ext a b (omega (arith, gap_ge a b))

pub gap_triangle : (a b c : ℤ) → gap a c ≤ gap a b + gap b c
gap_triangle a b c =
    gap-le a c (gap a b + gap b c) (omega (arith, gap_ge a b, gap_ge b c)) (omega (arith, gap_ge a b, gap_ge b c))

-- The gap in one direction, exactly, and read from the other end.
pub gap_up : (a b : ℤ) → AtMost a b → gap a b + (plus a + minus b) ≡ plus b + minus a
gap_up a b h = omega (arith, gap_ge a b, gap-le a b (plus b + minus a - (plus a + minus b)) (omega arith) (omega arith))

pub gap_down : (a b : ℤ) → AtMost a b → gap b a + (plus a + minus b) ≡ plus b + minus a
gap_down a b h = omega (arith, gap_up a b h, gap_sym a b)

-- Additivity between: a ≤ b ≤ c.
pub gap-between : (a b c : ℤ) → T (le_z a b) → T (le_z b c) → gap a c ≡ gap a b + gap b c
gap-between a b c h k =
    let m = atmost_value a b h in
    let n = atmost_value b c k in
    omega (arith, gap_up a b m, gap_up b c n, gap_up a c (omega arith))

pub dist_sym : (p q : Point) → dist p q ≡ dist q p
unfolding dist
dist_sym p q = ap₂ ◌+◌ (gap_sym p.x q.x) (gap_sym p.y q.y)

pub dist_self : (p : Point) → dist p p ≡ 0
unfolding dist
dist_self p = omega (arith, gap_self p.x, gap_self p.y)

pub dist-zero : (p q : Point) → dist p q ≡ 0 → p ≡ q
unfolding dist
dist-zero p q e = λ i. record { x = ex i; y = ey i }
  where
    ex : p.x ≡ q.x
    ex = gap-zero p.x q.x (omega arith)

    ey : p.y ≡ q.y
    ey = gap-zero p.y q.y (omega arith)

pub triangle : (p q r : Point) → dist p r ≤ dist p q + dist q r
unfolding dist
triangle p q r = omega (arith, gap_triangle p.x q.x r.x, gap_triangle p.y q.y r.y)

-- Two different points are at least a centimetre apart.
pub apart : (p q : Point) → ¬ (p ≡ q) → 1 ≤ dist p q
apart p q n = go (dist p q) (dist-zero p q)
  where
    go : (m : ℕ) → (m ≡ 0 → p ≡ q) → 1 ≤ m
    go zero f = absurd (n (f refl))
    go (suc m) f = omega arith

pub lower_differ : (p q : Point) → Lower p q → ¬ (p ≡ q)
lower_differ p q h e = lower-order.irrefl q (subst (λ (z : Point). Lower z q) e h)
