-- Two points in range are at most 120,000 centimetres apart.
use Prim.Native.Nat.{◌≤◌}
use native.Mathlib.Omega.{arith}
use lib.Dec.{T, leb→le}
use lib.IntN.{ℤ, nat_abs}
use Rattle.plane.specs.Point.{Point, limit, coordinate_in_range, in_range, gap, dist}
use Rattle.arrays.proofs.Test.{and_parts}
use Rattle.plane.proofs.Whole.{plus, minus, abs_value, gap-le}

-- A coordinate in range by natural numbers.
pub range_values : (z : ℤ) → T (coordinate_in_range z) → (plus z ≤ 30000) × (minus z ≤ 30000)
range_values z t =
    let h : nat_abs z ≤ limit = leb→le (nat_abs z) limit t in
    (omega (arith, abs_value z), omega (arith, abs_value z))

gap_range : (a b : ℤ) → T (coordinate_in_range a) → T (coordinate_in_range b) → gap a b ≤ 60000
gap_range a b s t =
    let h = range_values a s in
    let k = range_values b t in
    gap-le a b 60000 (omega arith) (omega arith)

pub dist_range : (p q : Point) → T (in_range p) → T (in_range q) → dist p q ≤ 120000
unfolding dist
dist_range p q s t =
    let h = and_parts (coordinate_in_range p.x) (coordinate_in_range p.y) s in
    let k = and_parts (coordinate_in_range q.x) (coordinate_in_range q.y) t in
    omega (arith, gap_range p.x q.x h.0 k.0, gap_range p.y q.y h.1 k.1)
