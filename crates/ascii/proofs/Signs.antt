-- Whole numbers of 32 bits without their signs, and the text of a whole number by its sign. By cases of the sign.
use mathlib.Core.Path.{◌≡◌, refl, sym, ap, ◌∙◌}
use mathlib.Core.Bool.{true, false}
use mathlib.Core.List.{List, ◌∷◌}
use Prim.Native.Nat.{ℕ, suc, ◌+◌, ◌≤◌, ◌<◌}
use native.Mathlib.Omega.{arith}
use lib.IntN.{ℤ, pos, negsuc, nat_abs}
use lib.ListN.{length}
use lib.Signed.{lt_z}
use mir.Syntax.{w32}
use mir.Val.{SFits}
use Rattle.plane.specs.Coordinate.{coordinate}
use Rattle.plane.proofs.Whole.{plus, minus}
use Rattle.plane.proofs.Signed.{less_yes, less_no}
use Rattle.plane.proofs.Stored.{coordinate_value}
use Rattle.model.specs.Listing.{decimal, signed_decimal, field}
use Rattle.arrays.specs.Paste.{Pasted}
use Rattle.ascii.proofs.Decimals.{decimal-few}
use Rattle.arrays.proofs.Signed.{read, read_is, read_one}
use Rattle.arrays.proofs.paste.Parts.{pasted_same}

-- The text of a whole number: its magnitude, behind a minus sign where it is negative.
pub text_minus : (z : ℤ) → lt_z z (pos 0) ≡ true → 45 ∷ decimal (nat_abs z) ≡ signed_decimal z
unfolding signed_decimal
text_minus (pos n) e = absurd (omega (arith, less_yes (pos n) (pos 0) e))
text_minus (negsuc k) e = refl

pub text_plus : (z : ℤ) → lt_z z (pos 0) ≡ false → decimal (nat_abs z) ≡ signed_decimal z
unfolding signed_decimal
text_plus (pos n) e = refl
text_plus (negsuc k) e = absurd (omega (arith, less_no (negsuc k) (pos 0) e))

-- The text of a coordinate in 16 bits.
pub coordinate-few : (u : ℕ) → u < 65536 → length (signed_decimal (coordinate u)) ≤ 6
coordinate-few u h = go (coordinate u) (coordinate_value u)
  where
    go : (z : ℤ) → plus z + 30000 ≡ u + minus z → length (signed_decimal z) ≤ 6
    go (pos n) e = unfold signed_decimal in omega (arith, decimal-few n (omega arith))
    go (negsuc n) e = unfold signed_decimal in omega (arith, decimal-few (suc n) (omega arith))

-- What is written for a whole number read back from its bits is written for the number.
pub field_again : (z : ℤ) {old new : List ℕ} {at r : ℕ} → SFits w32 z → Pasted (field (signed_decimal (read z))) old new at r
    → Pasted (field (signed_decimal z)) old new at r
field_again z f p = pasted_same (read_one (λ (y : ℤ). field (signed_decimal y)) f) p

-- The number m in base ten, written for the whole number z that is read back from its bits.
module _ (z : ℤ) (old new : List ℕ) (m at r : ℕ) (f : SFits w32 z) (e : m ≡ nat_abs (read z)) where
  size : m ≡ nat_abs z
  size = e ∙ read_one nat_abs f

  pub minus_put : lt_z (read z) (pos 0) ≡ true → Pasted (45 ∷ decimal m) old new at r → Pasted (signed_decimal z) old new at r
  minus_put l p =
      pasted_same (ap (λ (k : ℕ). 45 ∷ decimal k) size ∙ text_minus z (sym (read_one (λ (y : ℤ). lt_z y (pos 0)) f) ∙ l)) p

  pub plus_put : lt_z (read z) (pos 0) ≡ false → Pasted (decimal m) old new at r → Pasted (signed_decimal z) old new at r
  plus_put l p = pasted_same (ap decimal size ∙ text_plus z (sym (read_one (λ (y : ℤ). lt_z y (pos 0)) f) ∙ l)) p

-- A coordinate, read back from its bits, as a field.
pub coordinate-put : (z : ℤ) (old new : List ℕ) (u at r : ℕ) → SFits w32 z → z ≡ coordinate u
    → Pasted (field (signed_decimal (read z))) old new at r → u < 65536 → Pasted (field (signed_decimal (coordinate u))) old new at r × (r ≤ at + 7)
coordinate-put z old new u at r f e p h =
    let q : Pasted (field (signed_decimal (coordinate u))) old new at r = pasted_same (ap (λ (y : ℤ). field (signed_decimal y)) (read_is f e)) p in
    (q, omega (arith, q.next, coordinate-few u h))
