-- Every difference other than 0, 0 is in exactly one octant, and `octant` gives it. Both go by quarters: what holds of the first, octants 0
-- and 1, holds of the others, which are the first one turned.
use mathlib.Core.Path.{◌≡◌, refl, sym, ap, subst}
use mathlib.Core.Logic.{◌⊎◌, inl, inr, ⊎_elim}
use mathlib.Core.Bool.{Bool, true, false}
use mathlib.Core.List.{List, [], ◌∷◌}
use Prim.Native.Nat.{ℕ, zero, suc, ◌+◌, ◌≤◌, ◌<◌}
use native.Mathlib.Nat.{suc_inj}
use native.Mathlib.Omega.{arith}
use native.Mathlib.Decide.{dec_lt}
use lib.Dec.{T}
use lib.ListN.{get_or}
use lib.IntN.{ℤ, pos}
use Rattle.octants.specs.Octant.{conditions, in_octant, first_true, octant}
use Rattle.plane.proofs.Whole.{plus, minus, whole_ext}
use Rattle.octants.proofs.Sector.{Sector, to_sector, from_sector}

-- In the first quarter, octants 0 and 1, no difference is in a later octant.
later : (k a b c d : ℕ) → suc (suc k) < 8 → b < a → d ≤ c → Sector k c d b a → ⊥
later zero a b c d h x y s = omega arith
later (suc zero) a b c d h x y s = omega arith
later (suc (suc zero)) a b c d h x y s = omega arith
later (suc (suc (suc zero))) a b c d h x y s = omega arith
later (suc (suc (suc (suc zero)))) a b c d h x y s = omega arith
later (suc (suc (suc (suc (suc zero))))) a b c d h x y s = omega arith
later (suc (suc (suc (suc (suc (suc k)))))) a b c d h x y s = omega arith

only : (j k a b c d : ℕ) → j < 8 → k < 8 → Sector j a b c d → Sector k a b c d → j ≡ k
only zero zero a b c d g h s t = refl
only zero (suc zero) a b c d g h s t = absurd (omega arith)
only zero (suc (suc k)) a b c d g h s t = absurd (later k a b c d h s.0 s.1 t)
only (suc zero) zero a b c d g h s t = absurd (omega arith)
only (suc zero) (suc zero) a b c d g h s t = refl
only (suc zero) (suc (suc k)) a b c d g h s t = absurd (later k a b c d h s.0 (omega arith) t)
only (suc (suc j)) zero a b c d g h s t = absurd (later j a b c d g t.0 t.1 s)
only (suc (suc j)) (suc zero) a b c d g h s t = absurd (later j a b c d g t.0 (omega arith) s)
only (suc (suc j)) (suc (suc k)) a b c d g h s t = ap (λ (n : ℕ). suc (suc n)) (only j k c d b a (omega arith) (omega arith) s t)

-- No difference is in two octants.
pub only_octant : (j k : ℕ) (dx dy : ℤ) → T (in_octant j dx dy) → T (in_octant k dx dy) → j ≡ k
only_octant j k dx dy s t =
    let p = to_sector j dx dy s in
    let q = to_sector k dx dy t in
    only j k (plus dx) (minus dx) (plus dy) (minus dy) p.0 q.0 p.1 q.1

-- Every difference is in one, unless both parts are 0: it is in the first quarter, or in one of the others, which are the first one turned.
quarter : (a b c d : ℕ) → b < a → d ≤ c → (k : ℕ) × (k < 2) × Sector k a b c d
quarter a b c d h g = by (dec_lt (c + b) (a + d))
  where
    by : Dec (c + b < a + d) → (k : ℕ) × (k < 2) × Sector k a b c d
    by (yes e) = (0, omega arith, (h, g, e))
    by (no n) = (1, omega arith, (h, omega arith))

some_sector : (a b c d : ℕ) → ((k : ℕ) × (k < 8) × Sector k a b c d) ⊎ ((a ≡ b) × (c ≡ d))
some_sector a b c d = by (dec_lt b a) (dec_lt c d) (dec_lt d c) (dec_lt a b)
  where
    third : c < d → b ≤ a → ((k : ℕ) × (k < 8) × Sector k a b c d) ⊎ ((a ≡ b) × (c ≡ d))
    third z h = let r = quarter d c a b z h in inl (suc (suc (suc (suc (suc (suc r.0))))), omega (arith, r.1), r.2)

    by : Dec (b < a) → Dec (c < d) → Dec (d < c) → Dec (a < b) → ((k : ℕ) × (k < 8) × Sector k a b c d) ⊎ ((a ≡ b) × (c ≡ d))
    by (yes x) (no z) y l = let r = quarter a b c d x (omega arith) in inl (r.0, omega (arith, r.1), r.2)
    by (no x) z (yes y) l = let r = quarter c d b a y (omega arith) in inl (suc (suc r.0), omega (arith, r.1), r.2)
    by (no x) z (no y) (yes l) = let r = quarter b a d c l (omega arith) in inl (suc (suc (suc (suc r.0))), omega (arith, r.1), r.2)
    by (yes x) (yes z) y l = third z (omega arith)
    by (no x) (yes z) (no y) (no l) = third z (omega arith)
    by (no x) (no z) (no y) (no l) = inr (omega arith, omega arith)

pub some_octant : (dx dy : ℤ) → ¬ ((dx ≡ pos 0) × (dy ≡ pos 0)) → (k : ℕ) × (k < 8) × T (in_octant k dx dy)
some_octant dx dy n =
    ⊎_elim (λ s. (s.0, s.1, from_sector s.0 dx dy (s.1, s.2)))
    (λ e. absurd (n (whole_ext dx (pos 0) (omega arith), whole_ext dy (pos 0) (omega arith))))
    (some_sector (plus dx) (minus dx) (plus dy) (minus dy))

-- The first condition that holds, where only one does.
first_at : (l : List Bool) (k : ℕ) → T (get_or l k false) → ((j : ℕ) → T (get_or l j false) → j ≡ k) → first_true l ≡ k
unfolding first_true
first_at [] k t only = absurd t
first_at (true ∷ l) k t only = only zero tt
first_at (false ∷ l) zero t only = absurd t
first_at (false ∷ l) (suc k) t only = ap suc (first_at l k t (λ j s. suc_inj (only (suc j) s)))

-- A difference is in octant k exactly if k is its octant.
pub octant_is : (k : ℕ) (dx dy : ℤ) → T (in_octant k dx dy) → octant dx dy ≡ k
unfolding octant
octant_is k dx dy t = first_at (conditions dx dy) k t (λ j s. only_octant j k dx dy s t)

-- SPEC 3.1: a difference that is not 0, 0 has one octant of the eight, and no other.
pub one_octant : (dx dy : ℤ) → ¬ ((dx ≡ pos 0) × (dy ≡ pos 0))
    → (octant dx dy < 8) × T (in_octant (octant dx dy) dx dy) × ((k : ℕ) → T (in_octant k dx dy) → k ≡ octant dx dy)
one_octant dx dy n =
    let s = some_octant dx dy n in
    let e = octant_is s.0 dx dy s.2 in
    (subst (λ (j : ℕ). j < 8) (sym e) s.1, subst (λ (j : ℕ). T (in_octant j dx dy)) (sym e) s.2, λ k t. sym (octant_is k dx dy t))
