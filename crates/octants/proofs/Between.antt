-- The octant of one stored point seen from another. The tests that a half turn's three inner rays make, added up, name the
-- octant; and the octant of a difference depends on the difference alone, so stored coordinates serve as well as whole numbers.
use mathlib.Core.Path.{◌≡◌, sym, ap, subst}
use mathlib.Core.Logic.{⊎_elim}
use mathlib.Core.Bool.{Bool, true, false, not}
use mathlib.Core.List.{List, [], ◌∷◌}
use Prim.Native.Nat.{ℕ, ◌+◌, ◌≤◌, ◌<◌}
use native.Mathlib.Omega.{arith}
use lib.Dec.{T, leb, leb→le, nleb→lt}
use lib.ListN.{length}
use lib.IntN.{ℤ, pos, ◌-ℤ◌}
use Rattle.plane.specs.Point.{Point, lower}
use Rattle.plane.specs.Coordinate.{coordinate}
use Rattle.octants.specs.Octant.{conditions, first_true, octant}
use Rattle.plane.specs.Stored.{one, point_at}
use Rattle.plane.proofs.Whole.{plus, minus, whole_ext, difference_value}
use Rattle.arrays.proofs.Order.{tied}
use Rattle.plane.proofs.Order.{lower-order}
use Rattle.octants.proofs.Sector.{Sector, Parts, SectorOf, sector_moves, from_sector}
use Rattle.octants.proofs.OneOctant.{octant_is}
use Rattle.plane.proofs.Stored.{coordinate_value, lower_true}

-- The octant whose sector a difference is in.
pub sector_octant : (k : ℕ) (dx dy : ℤ) → SectorOf k dx dy → octant dx dy ≡ k
sector_octant k dx dy s = octant_is k dx dy (from_sector k dx dy s)

-- The octant of two stored points from the sector of their stored coordinates.
pub between_is : (k ax ay bx by : ℕ) → k < 8 → Sector k bx ax by ay
    → octant (coordinate bx -ℤ coordinate ax) (coordinate by -ℤ coordinate ay) ≡ k
between_is k ax ay bx by h s = sector_octant k (coordinate bx -ℤ coordinate ax) (coordinate by -ℤ coordinate ay) (h, moved)
  where
    moves : (u v : ℕ) → u + minus (coordinate u -ℤ coordinate v) ≡ plus (coordinate u -ℤ coordinate v) + v
    moves u v = omega (arith, difference_value (coordinate u) (coordinate v), coordinate_value u, coordinate_value v)

    moved : Parts k (coordinate bx -ℤ coordinate ax) (coordinate by -ℤ coordinate ay)
    moved =
        sector_moves k bx ax by ay
        (plus (coordinate bx -ℤ coordinate ax)) (minus (coordinate bx -ℤ coordinate ax))
        (plus (coordinate by -ℤ coordinate ay)) (minus (coordinate by -ℤ coordinate ay)) (moves bx ax) (moves by ay) s

pub at_most_one : (b : Bool) → one b ≤ 1
at_most_one true = omega arith
at_most_one false = omega arith

-- From the ray to the right half a turn on, that ray included: the rays of octants 1, 2 and 3 that a difference has reached, counted.
module _ (a b c d : ℕ) (level : d ≤ c) (strict : a ≤ b → d < c) where
  upper : (p q s : Bool) → (T p → a + d ≤ c + b) → (T (not p) → c + b < a + d) → (T q → a ≤ b) → (T (not q) → b < a)
      → (T s → a + c ≤ b + d) → (T (not s) → b + d < a + c) → Sector (one p + one q + one s) a b c d
  upper false false false p n q m s l = omega (arith, n tt, m tt)
  upper true false false p n q m s l = omega (arith, p tt, m tt)
  upper true true false p n q m s l = omega (arith, q tt, l tt)
  upper true true true p n q m s l = omega (arith, s tt, strict (q tt))
  upper false true t p n q m s l = absurd (omega (arith, n tt, q tt))
  upper false false true p n q m s l = absurd (omega (arith, m tt, s tt))
  upper true false true p n q m s l = absurd (omega (arith, p tt, m tt, s tt))

-- The other half turn: the rays of octants 5, 6 and 7, counted.
module _ (a b c d : ℕ) (level : c ≤ d) (strict : b ≤ a → c < d) where
  under : (p q s : Bool) → (T p → c + b ≤ a + d) → (T (not p) → a + d < c + b) → (T q → b ≤ a) → (T (not q) → a < b)
      → (T s → b + d ≤ a + c) → (T (not s) → a + c < b + d) → Sector (one p + one q + one s + 4) a b c d
  under false false false p n q m s l = omega (arith, n tt, m tt)
  under true false false p n q m s l = omega (arith, p tt, m tt)
  under true true false p n q m s l = omega (arith, q tt, l tt)
  under true true true p n q m s l = omega (arith, s tt, strict (q tt))
  under false true t p n q m s l = absurd (omega (arith, n tt, q tt))
  under false false true p n q m s l = absurd (omega (arith, m tt, s tt))
  under true false true p n q m s l = absurd (omega (arith, p tt, m tt, s tt))

-- What the order by y, then by x, says of a half turn.
rising : (ay ax by bx : ℕ) → lower (point_at ay ax) (point_at by bx) ≡ true → (ay ≤ by) × (bx ≤ ax → ay < by)
rising ay ax by bx e = ⊎_elim (λ h. (omega arith, λ _. h)) (λ h. (omega arith, λ k. absurd (omega arith))) (lower_true ay ax by bx e)

pub between_upper : (ax ay bx by : ℕ) → lower (point_at ay ax) (point_at by bx) ≡ true
    → one (leb (bx + ay) (by + ax)) + one (leb bx ax) + one (leb (bx + by) (ax + ay))
    ≡ octant (coordinate bx -ℤ coordinate ax) (coordinate by -ℤ coordinate ay)
between_upper ax ay bx by e =
    let h = rising ay ax by bx e in
    let p = leb (bx + ay) (by + ax) in
    let q = leb bx ax in
    let s = leb (bx + by) (ax + ay) in
    sym (between_is (one p + one q + one s) ax ay bx by (omega (arith, at_most_one p, at_most_one q, at_most_one s))
    (upper bx ax by ay h.0 h.1 p q s (leb→le (bx + ay) (by + ax)) (nleb→lt (bx + ay) (by + ax)) (leb→le bx ax) (nleb→lt bx ax)
    (leb→le (bx + by) (ax + ay)) (nleb→lt (bx + by) (ax + ay))))

pub between_under : (ax ay bx by : ℕ) → lower (point_at by bx) (point_at ay ax) ≡ true
    → one (leb (by + ax) (bx + ay)) + one (leb ax bx) + one (leb (ax + ay) (bx + by)) + 4
    ≡ octant (coordinate bx -ℤ coordinate ax) (coordinate by -ℤ coordinate ay)
between_under ax ay bx by e =
    let h = rising by bx ay ax e in
    let p = leb (by + ax) (bx + ay) in
    let q = leb ax bx in
    let s = leb (ax + ay) (bx + by) in
    sym (between_is (one p + one q + one s + 4) ax ay bx by (omega (arith, at_most_one p, at_most_one q, at_most_one s))
    (under bx ax by ay h.0 h.1 p q s (leb→le (by + ax) (bx + ay)) (nleb→lt (by + ax) (bx + ay)) (leb→le ax bx) (nleb→lt ax bx)
    (leb→le (ax + ay) (bx + by)) (nleb→lt (ax + ay) (bx + by))))

-- An octant's number is at most 8.
pub octant-most : (dx dy : ℤ) → octant dx dy ≤ 8
unfolding conditions first_true octant
octant-most dx dy = first (conditions dx dy)
  where
    first : (l : List Bool) → first_true l ≤ length l
    first [] = omega arith
    first (true ∷ l) = omega arith
    first (false ∷ l) = omega (arith, first l)

-- No difference.
pub octant_none : (dx dy : ℤ) → plus dx ≡ minus dx → plus dy ≡ minus dy → octant dx dy ≡ 8
unfolding conditions first_true octant
octant_none dx dy e f = rw (whole_ext dx (pos 0) (omega arith), whole_ext dy (pos 0) (omega arith))

pub between_none : (ax ay bx by : ℕ) → lower (point_at ay ax) (point_at by bx) ≡ false → lower (point_at by bx) (point_at ay ax) ≡ false
    → 8 ≡ octant (coordinate bx -ℤ coordinate ax) (coordinate by -ℤ coordinate ay)
between_none ax ay bx by e f =
    sym (octant_none (coordinate bx -ℤ coordinate ax) (coordinate by -ℤ coordinate ay)
    (omega (arith, difference_value (coordinate bx) (coordinate ax), ap plus ex, ap minus ex))
    (omega (arith, difference_value (coordinate by) (coordinate ay), ap plus ey, ap minus ey)))
  where
    failed : (t : Bool) → t ≡ false → T (not t)
    failed t g = subst (λ (b : Bool). T (not b)) (sym g) tt

    same : point_at ay ax ≡ point_at by bx
    same =
        tied lower lower-order (point_at ay ax) (point_at by bx) (failed (lower (point_at ay ax) (point_at by bx)) e)
        (failed (lower (point_at by bx) (point_at ay ax)) f)

    ex : coordinate ax ≡ coordinate bx
    ex = ap (λ (p : Point). p.y) same

    ey : coordinate ay ≡ coordinate by
    ey = ap (λ (p : Point). p.x) same
