-- The least and the greatest of stored coordinates: one of them that is at most each, and one that is at least each. By the order of stored coordinates,
-- which is that of the coordinates.
use Rattle.std.specs.Prelude.{Option, Some, None, MatchOption, IfSome}
use Rattle.std.specs.Option.{unwrap_or}
use mathlib.Core.Path.{◌≡◌, refl, subst, subst⁻¹}
use mathlib.Core.Logic.{⊎_elim}
use mathlib.Core.List.Memᴰ.{cases_cons, head, tail, not-nil}
use mathlib.Core.List.{List, [], ◌∷◌, map, Memᴰ}
use Prim.Native.Nat.{ℕ, zero, suc, ◌≤◌, ◌<◌}
use native.Mathlib.Omega.{arith}
use lib.Dec.{T}
use lib.IntN.{ℤ}
use lib.ListN.{length, get_or}
use lib.Signed.{le_z}
use Rattle.plane.specs.Coordinate.{coordinate}
use Rattle.plane.specs.Box.{least, greatest}
use Rattle.plane.proofs.Box.{reaches_ends}
use Rattle.plane.proofs.Whole.{whole_ext, atmost_value, value_atmost}
use Rattle.plane.proofs.Stored.{coordinate_value}
use Rattle.frame.specs.Frame.{lowest, highest}

-- The one number of a list that is at most each of it, and the one that is at least each.
lowest_is : (l : List ℤ) (m : ℤ) → Memᴰ m l → ((z : ℤ) → Memᴰ z l → T (le_z m z)) → m ≡ lowest l
unfolding lowest
lowest_is [] m i h = absurd (not-nil i)
lowest_is (a ∷ l) m i h =
    let e = reaches_ends a l in
    whole_ext m (least a l) (omega (arith, atmost_value m (least a l) (h (least a l) e.lowest), atmost_value (least a l) m (e.between m i).0))

highest_is : (l : List ℤ) (m : ℤ) → Memᴰ m l → ((z : ℤ) → Memᴰ z l → T (le_z z m)) → m ≡ highest l
unfolding highest
highest_is [] m i h = absurd (not-nil i)
highest_is (a ∷ l) m i h =
    let e = reaches_ends a l in
    whole_ext m (greatest a l) (omega (arith, atmost_value (greatest a l) m (h (greatest a l) e.highest), atmost_value m (greatest a l) (e.between m i).1))

-- Stored coordinates are in the order of the coordinates.
order : (a b : ℕ) → a ≤ b → T (le_z (coordinate a) (coordinate b))
order a b h = value_atmost (coordinate a) (coordinate b) (omega (arith, coordinate_value a, coordinate_value b))

-- What stands at a place is a member, and what holds at each place holds of each member.
member : (l : List ℕ) (k : ℕ) → k < length l → Memᴰ (coordinate (get_or l k 0)) (map coordinate l)
member [] k h = absurd (omega arith)
member (a ∷ l) zero h = head refl
member (a ∷ l) (suc k) h = tail (member l k (omega arith))

each : (P : ℤ → Type 0) (l : List ℕ) → ((k : ℕ) → k < length l → P (coordinate (get_or l k 0))) → (z : ℤ) → Memᴰ z (map coordinate l) → P z
each P [] h z i = absurd (not-nil i)
each P (a ∷ l) h z i =
    ⊎_elim (λ e. subst⁻¹ P e (h 0 (omega arith))) (each P l (λ k p. h (suc k) (omega arith)) z) (cases_cons i)

-- The least of some numbers and the greatest, by what the searches for them say; coordinate 0 where there is none.
pub least-end : (l : List ℕ) (r : Option ℕ) → MatchOption r (length l ≡ 0) (λ m. (k : ℕ) → k < length l → m ≤ get_or l k 0)
    → IfSome r (λ m. (k : ℕ) × (k < length l) × (get_or l k 0 ≡ m)) → coordinate (unwrap_or r 30000) ≡ lowest (map coordinate l)
unfolding lowest coordinate
least-end [] None e i = refl
least-end (a ∷ l) None e i = absurd (omega arith)
least-end l (Some m) h i =
    lowest_is (map coordinate l) (coordinate m) (subst (λ (u : ℕ). Memᴰ (coordinate u) (map coordinate l)) i.2 (member l i.0 i.1))
    (each (λ (z : ℤ). T (le_z (coordinate m) z)) l (λ k p. order m (get_or l k 0) (h k p)))

pub greatest-end : (l : List ℕ) (r : Option ℕ) → MatchOption r (length l ≡ 0) (λ m. (k : ℕ) → k < length l → get_or l k 0 ≤ m)
    → IfSome r (λ m. (k : ℕ) × (k < length l) × (get_or l k 0 ≡ m)) → coordinate (unwrap_or r 30000) ≡ highest (map coordinate l)
unfolding highest coordinate
greatest-end [] None e i = refl
greatest-end (a ∷ l) None e i = absurd (omega arith)
greatest-end l (Some m) h i =
    highest_is (map coordinate l) (coordinate m) (subst (λ (u : ℕ). Memᴰ (coordinate u) (map coordinate l)) i.2 (member l i.0 i.1))
    (each (λ (z : ℤ). T (le_z z (coordinate m))) l (λ k p. order (get_or l k 0) m (h k p)))
