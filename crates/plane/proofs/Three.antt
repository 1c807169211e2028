-- Three points and the box around them. Their middle point, with the middle one of their x and the middle one of their y, is as far from all three
-- together as the box's half perimeter. So is every point such that joining any other point to it and to two of the three is no shorter than joining
-- it to these two: it is the middle point. Each is shown on one axis, for three numbers that rise, and holds then of three in any order.
use mathlib.Core.Path.{◌≡◌, refl, sym}
use mathlib.Core.List.Memᴰ.{head}
use mathlib.Core.List.Memᴰ.{tail}
use mathlib.Core.List.{List, [], ◌∷◌, Memᴰ}
use mathlib.Core.List.Memᴰ
use Prim.Native.Nat.{◌+◌, ◌≤◌}
use native.Mathlib.Omega.{arith}
use lib.Dec.{T}
use lib.IntN.{ℤ}
use lib.Signed.{le_z}
use Rattle.arrays.proofs.Members.{mem_swap, mem_swap_next, mem-each}
use Rattle.plane.specs.Point.{Point, point, gap, dist}
use Rattle.plane.specs.Box.{spread, half_perimeter}
use Rattle.plane.proofs.Whole.{AtMost, at_most?, whole_ext, value_atmost}
use Rattle.plane.proofs.Metric.{gap_self, gap_up, gap_down}
use Rattle.plane.proofs.Median.{sum_gap}
use Rattle.plane.proofs.Box.{spread_reaches, spread-members}

-- What holds of three numbers that rise holds of any three, if it stays when the first two or the last two are exchanged.
in_order_lem : (Q : ℤ → ℤ → ℤ → Type 0) → ((a b c : ℤ) → Q a b c → Q b a c) → ((a b c : ℤ) → Q a b c → Q a c b)
    → ((a b c : ℤ) → AtMost a b → AtMost b c → Q a b c) → (a b c : ℤ) → Q a b c
in_order_lem Q front back rising a b c = go (at_most? a b) (at_most? b c) (at_most? a c)
  where
    go : Dec (AtMost a b) → Dec (AtMost b c) → Dec (AtMost a c) → Q a b c
    go (yes h) (yes k) l = rising a b c h k
    go (yes h) (no k) (yes l) = back a c b (rising a c b l (omega arith))
    go (yes h) (no k) (no l) = back a c b (front c a b (rising c a b (omega arith) h))
    go (no h) (yes k) (yes l) = front b a c (rising b a c (omega arith) l)
    go (no h) (yes k) (no l) = front b a c (back b c a (rising b c a k (omega arith)))
    go (no h) (no k) l = front b a c (back b c a (front c b a (rising c b a (omega arith) (omega arith))))

abbrev three : ℤ → ℤ → ℤ → List ℤ
three a b c = a ∷ b ∷ c ∷ []

-- How far three numbers spread does not depend on their order.
spread-front : (a b c : ℤ) → spread (three a b c) ≡ spread (three b a c)
spread-front a b c = spread-members (three a b c) (three b a c) (λ z i. mem_swap i) (λ z i. mem_swap i)

spread-back : (a b c : ℤ) → spread (three a b c) ≡ spread (three a c b)
spread-back a b c = spread-members (three a b c) (three a c b) (λ z i. mem_swap_next i) (λ z i. mem_swap_next i)

rising-spread : (a b c : ℤ) → AtMost a b → AtMost b c → spread (three a b c) ≡ gap a c
rising-spread a b c h k =
    spread_reaches (three a b c) a c (record {
      lowest = head refl;
      highest = tail (tail (head refl));
      between = λ z i. mem-each (λ (u : ℤ). T (le_z a u) × T (le_z u c)) (three a b c)
          (within a (omega arith) (omega arith), (within b h k, (within c (omega arith) (omega arith), tt))) i;
    })
  where
    within : (u : ℤ) → AtMost a u → AtMost u c → T (le_z a u) × T (le_z u c)
    within u m n = (value_atmost a u m, value_atmost u c n)

-- The middle one of three numbers is as far from all three together as they spread.
from_middle : (a b c : ℤ) → AtMost a b → AtMost b c → sum_gap b (three a b c) ≡ spread (three a b c)
unfolding sum_gap
from_middle a b c h k = omega (arith, gap_self b, gap_down a b h, gap_up b c k, gap_up a c (omega arith), rising-spread a b c h k)

middle : (a b c : ℤ) → (m : ℤ) × Memᴰ m (three a b c) × (sum_gap m (three a b c) ≡ spread (three a b c))
unfolding sum_gap
middle =
    in_order_lem (λ a b c. (m : ℤ) × Memᴰ m (three a b c) × (sum_gap m (three a b c) ≡ spread (three a b c)))
    (λ a b c r. (r.0, mem_swap r.1, omega (arith, r.2, spread-front a b c)))
    (λ a b c r. (r.0, mem_swap_next r.1, omega (arith, r.2, spread-back a b c)))
    (λ a b c h k. (b, tail (head refl), from_middle a b c h k))

-- Joining m to z, a and b is no shorter than joining z to a and b; and so for any two of three numbers, whatever m is.
abbrev NoShorterBy : ℤ → ℤ → ℤ → ℤ → Type 0
NoShorterBy m z a b = gap z a + gap z b ≤ gap m a + gap m b + gap m z

abbrev Settled : ℤ → ℤ → ℤ → ℤ → Type 0
Settled z a b c = (m : ℤ) → NoShorterBy m z a b × NoShorterBy m z b c × NoShorterBy m z a c

-- Such a number is the middle one: else joining the middle one to it and to the two on the other side would be shorter.
settled : (z a b c : ℤ) → Settled z a b c → sum_gap z (three a b c) ≡ spread (three a b c)
unfolding sum_gap
settled z =
    in_order_lem (λ a b c. Settled z a b c → sum_gap z (three a b c) ≡ spread (three a b c))
    (λ a b c f s. omega (arith, f (λ m. let t = s m in (omega arith, omega arith, omega arith)), spread-front a b c))
    (λ a b c f s. omega (arith, f (λ m. let t = s m in (omega arith, omega arith, omega arith)), spread-back a b c))
    rising
  where
    rising : (a b c : ℤ) → AtMost a b → AtMost b c → Settled z a b c → sum_gap z (three a b c) ≡ spread (three a b c)
    rising a b c h k s = go (at_most? b z)
      where
        go : Dec (AtMost b z) → sum_gap z (three a b c) ≡ spread (three a b c)
        go (yes l) =
            let e : z ≡ b = whole_ext z b
            (omega (arith, (s b).0, gap_self b, gap_down a b h, gap_up b z l, gap_down b z l, gap_down a z (omega arith))) in
            rw e (from_middle a b c h k)
        go (no n) =
            absurd (omega (arith, (s b).1, gap_self b, gap_up b c k, gap_up z b (omega arith), gap_down z b (omega arith), gap_up z c (omega arith)))

-- The middle point of three points: on the x of one of them and the y of one of them.
pub record MiddlePoint (p q r : Point) : Type 0 where
  pub at : Point
  pub on_x : (a : Point) × Memᴰ a (p ∷ q ∷ r ∷ []) × (at.x ≡ a.x)
  pub on_y : (b : Point) × Memᴰ b (p ∷ q ∷ r ∷ []) × (at.y ≡ b.y)
  pub near : dist at p + dist at q + dist at r ≡ half_perimeter (p ∷ q ∷ r ∷ [])

pub middle_point : (p q r : Point) → MiddlePoint p q r
unfolding dist half_perimeter sum_gap
middle_point p q r =
    let mx = middle p.x q.x r.x in
    let my = middle p.y q.y r.y in
    let a = Memᴰ.of_map (λ (u : Point). u.x) (p ∷ q ∷ r ∷ []) mx.1 in
    let b = Memᴰ.of_map (λ (u : Point). u.y) (p ∷ q ∷ r ∷ []) my.1 in
    record { at = point mx.0 my.0; on_x = (a.0, a.1, sym a.2); on_y = (b.0, b.1, sym b.2); near = omega (arith, mx.2, my.2) }

-- Joining d to c, u and v is no shorter than joining c to u and v.
abbrev pub NoShorterOver : Point → Point → Point → Point → Type 0
NoShorterOver d c u v = dist c u + dist c v ≤ dist d u + dist d v + dist d c

-- A point c of which this holds for any two of three points, whatever d is, is as far from all three together as the half perimeter.
pub settled_point : (c p q r : Point) → ((d : Point) → NoShorterOver d c p q × NoShorterOver d c q r × NoShorterOver d c p r)
    → dist c p + dist c q + dist c r ≡ half_perimeter (p ∷ q ∷ r ∷ [])
unfolding dist half_perimeter sum_gap
settled_point c p q r s =
    omega (
      arith,
      settled c.x p.x q.x r.x
          (λ m. let t = s (point m c.y) in let o = gap_self c.y in (omega arith, omega arith, omega arith)),
      settled c.y p.y q.y r.y
          (λ m. let t = s (point c.x m) in let o = gap_self c.x in (omega arith, omega arith, omega arith)),
    )
