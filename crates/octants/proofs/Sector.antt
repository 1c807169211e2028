-- The eight octants on natural numbers: dx is a less b, dy is c less d. Two octants and the quarter turn say all eight: a difference is in
-- octant k + 2 exactly if, turned a quarter back, it is in octant k, and (dx, dy) turned back is (dy, −dx), that is (c, d, b, a).
use mathlib.Core.Path.{◌≡◌, refl, sym, ap, subst}
use mathlib.Core.Bool.{Bool, false, ◌&&◌}
use mathlib.Core.List.{List, [], ◌∷◌}
use Prim.Native.Nat.{ℕ, zero, suc, ◌+◌, ◌≤◌, ◌<◌}
use native.Mathlib.Omega.{arith}
use lib.Dec.{T}
use lib.ListN.{length, get_or}
use lib.IntN.{ℤ, pos, neg_ℤ, neg_ℤ-neg_ℤ}
use lib.Signed.{lt_z, le_z}
use Rattle.octants.specs.Octant.{conditions, in_octant}
use Rattle.arrays.proofs.Test.{and_parts, and_both, same_test}
use Rattle.plane.proofs.Whole.{plus, minus, neg_plus, neg_minus, less_value, value_less, atmost_value, value_atmost}

-- The conditions of octants 0 and 1, and the turn. After eight octants they come again, so the octant's number is bounded apart.
abbrev pub Sector : ℕ → ℕ → ℕ → ℕ → ℕ → Type 0
Sector zero a b c d = (b < a) × (d ≤ c) × (c + b < a + d)
Sector (suc zero) a b c d = (b < a) × (a + d ≤ c + b)
Sector (suc (suc k)) a b c d = Sector k c d b a

abbrev pub Parts : ℕ → ℤ → ℤ → Type 0
Parts k dx dy = Sector k (plus dx) (minus dx) (plus dy) (minus dy)

abbrev pub SectorOf : ℕ → ℤ → ℤ → Type 0
SectorOf k dx dy = (k < 8) × Parts k dx dy

-- A sector is of differences: two pairs of numbers with equal differences are in the same.
pub sector_moves : (k a b c d a' b' c' d' : ℕ) → a + b' ≡ a' + b → c + d' ≡ c' + d → Sector k a b c d → Sector k a' b' c' d'
sector_moves zero a b c d a' b' c' d' e f s = omega arith
sector_moves (suc zero) a b c d a' b' c' d' e f s = omega arith
sector_moves (suc (suc k)) a b c d a' b' c' d' e f s = sector_moves k c d b a c' d' b' a' f (omega arith) s

-- The quarter turn of whole numbers: what stood for dy stands for dx, and −dx for dy.
module _ (k : ℕ) (dx dy : ℤ) where
  turn : Parts k dy (neg_ℤ dx) → Parts (suc (suc k)) dx dy
  turn =
      sector_moves k (plus dy) (minus dy) (plus (neg_ℤ dx)) (minus (neg_ℤ dx)) (plus dy) (minus dy) (minus dx) (plus dx) (omega arith)
      (omega (arith, neg_plus dx, neg_minus dx))

  unturn : Parts (suc (suc k)) dx dy → Parts k dy (neg_ℤ dx)
  unturn =
      sector_moves k (plus dy) (minus dy) (minus dx) (plus dx) (plus dy) (minus dy) (plus (neg_ℤ dx)) (minus (neg_ℤ dx)) (omega arith)
      (omega (arith, neg_plus dx, neg_minus dx))

-- The tests of octants 0 and 1 as facts on natural numbers, and back.
module _ (dx dy : ℤ) where
  to_first : T (in_octant 0 dx dy) → Parts 0 dx dy
  unfolding conditions
  to_first t =
      let h = and_parts (lt_z (pos 0) dx) (le_z (pos 0) dy && lt_z dy dx) t in
      let g = and_parts (le_z (pos 0) dy) (lt_z dy dx) h.1 in
      omega (arith, less_value (pos 0) dx h.0, atmost_value (pos 0) dy g.0, less_value dy dx g.1)

  from_first : Parts 0 dx dy → T (in_octant 0 dx dy)
  unfolding conditions
  from_first s =
      and_both (lt_z (pos 0) dx) (le_z (pos 0) dy && lt_z dy dx) (value_less (pos 0) dx (omega arith))
      (and_both (le_z (pos 0) dy) (lt_z dy dx) (value_atmost (pos 0) dy (omega arith)) (value_less dy dx (omega arith)))

  to_second : T (in_octant 1 dx dy) → Parts 1 dx dy
  unfolding conditions
  to_second t =
      let h = and_parts (lt_z (pos 0) dx) (le_z dx dy) t in
      omega (arith, less_value (pos 0) dx h.0, atmost_value dx dy h.1)

  from_second : Parts 1 dx dy → T (in_octant 1 dx dy)
  unfolding conditions
  from_second s = and_both (lt_z (pos 0) dx) (le_z dx dy) (value_less (pos 0) dx (omega arith)) (value_atmost dx dy (omega arith))

-- The table from octant 2 on is the table at the quarter turn back.
turned : (k : ℕ) (dx dy : ℤ) → suc (suc k) < 8 → in_octant (suc (suc k)) dx dy ≡ in_octant k dy (neg_ℤ dx)
unfolding conditions
turned k dx dy = by k
  where
    sign : lt_z dx (pos 0) ≡ lt_z (pos 0) (neg_ℤ dx)
    sign =
        same_test (lt_z dx (pos 0)) (lt_z (pos 0) (neg_ℤ dx))
        (λ t. value_less (pos 0) (neg_ℤ dx) (omega (arith, less_value dx (pos 0) t, neg_plus dx, neg_minus dx)))
        (λ t. value_less dx (pos 0) (omega (arith, less_value (pos 0) (neg_ℤ dx) t, neg_plus dx, neg_minus dx)))

    twice : dx ≡ neg_ℤ (neg_ℤ dx)
    twice = sym (neg_ℤ-neg_ℤ dx)

    by : (k : ℕ) → suc (suc k) < 8 → in_octant (suc (suc k)) dx dy ≡ in_octant k dy (neg_ℤ dx)
    by zero h = refl
    by (suc zero) h = refl
    by (suc (suc zero)) h = ap (λ (t : Bool). t && (le_z (pos 0) (neg_ℤ dy) && lt_z (neg_ℤ dy) (neg_ℤ dx))) sign
    by (suc (suc (suc zero))) h = ap (λ (t : Bool). t && le_z (neg_ℤ dx) (neg_ℤ dy)) sign
    by (suc (suc (suc (suc zero)))) h = ap (λ (z : ℤ). lt_z dy (pos 0) && (le_z (pos 0) z && lt_z z (neg_ℤ dy))) twice
    by (suc (suc (suc (suc (suc zero))))) h = ap (λ (z : ℤ). lt_z dy (pos 0) && le_z (neg_ℤ dy) z) twice
    by (suc (suc (suc (suc (suc (suc k)))))) h = absurd (omega arith)

-- Every octant's test as a fact on natural numbers, and back.
sector_is : (k : ℕ) (dx dy : ℤ) → k < 8 → (T (in_octant k dx dy) → Parts k dx dy) × (Parts k dx dy → T (in_octant k dx dy))
sector_is zero dx dy h = (to_first dx dy, from_first dx dy)
sector_is (suc zero) dx dy h = (to_second dx dy, from_second dx dy)
sector_is (suc (suc k)) dx dy h =
    let back = sector_is k dy (neg_ℤ dx) (omega arith) in (
      λ t. turn k dx dy (back.0 (subst T (turned k dx dy h) t)),
      λ s. subst T (sym (turned k dx dy h)) (back.1 (unturn k dx dy s)),
    )

pub to_sector : (k : ℕ) (dx dy : ℤ) → T (in_octant k dx dy) → SectorOf k dx dy
unfolding conditions
to_sector k dx dy t = let h = within (conditions dx dy) k t in (h, (sector_is k dx dy h).0 t)
  where
    within : (l : List Bool) (j : ℕ) → T (get_or l j false) → j < length l
    within [] j s = absurd s
    within (b ∷ l) zero s = omega arith
    within (b ∷ l) (suc j) s = omega (arith, within l j s)

pub from_sector : (k : ℕ) (dx dy : ℤ) → SectorOf k dx dy → T (in_octant k dx dy)
from_sector k dx dy s = (sector_is k dx dy s.0).1 s.1
