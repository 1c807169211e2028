-- The signed number of 32 bits: the number itself, or from 2,147,483,648 on a negative one.
use mathlib.Core.Path.{◌≡◌, refl, sym, ap, ◌∙◌, subst⁻¹}
use Prim.Native.Nat.{ℕ, suc, ◌+◌, ◌-◌, ◌*◌, ◌/◌, ◌≤◌, ◌<◌}
use native.Mathlib.Omega.{arith}
use lib.IntN.{ℤ, pos, negsuc, ◌+ℤ◌}
use mir.Syntax.{w32}
use mir.Val.{SFits, to_z}
use Rattle.std.proofs.Math.Facts.{to_z-neg}
use mir.ValLaws.{to_z_pos}
use lib.Dec.{T, ltb, ltb→lt, nltb→le}
use Rattle.arrays.proofs.Test.{of_true}
use mathlib.Core.Bool.{Bool, true, false, not}
use Rattle.arrays.proofs.Signed.{read, read_is}
use Rattle.plane.proofs.Whole.{plus, minus, sub_value, add_value, whole_ext}
use Rattle.plane.proofs.Signed.{sum_fits}
use Rattle.replay.specs.Calls.{signed32}

signed_value : (n : ℕ) → plus (signed32 n) + 4294967296 * (n / 2147483648) ≡ n + minus (signed32 n)
unfolding signed32
signed_value n = sub_value n (4294967296 * (n / 2147483648))

low_is : (n : ℕ) → n < 2147483648 → to_z w32 n ≡ signed32 n
low_is n h = to_z_pos w32 n (omega arith) ∙ whole_ext (pos n) (signed32 n) (omega (arith, signed_value n))

high_is : (n : ℕ) → 2147483648 ≤ n → n < 4294967296 → to_z w32 n ≡ signed32 n
high_is n high fits =
    let e : 4294967296 - suc (4294967295 - n) ≡ n = omega arith in
    ap (to_z w32) (sym e) ∙ to_z-neg w32 (4294967295 - n) (omega arith)
    ∙ whole_ext (negsuc (4294967295 - n)) (signed32 n) (omega (arith, signed_value n))

pub signed_is : (n : ℕ) → n < 4294967296 → to_z w32 n ≡ signed32 n
signed_is n fits = go (ltb n 2147483648) refl
  where
    go : (t : Bool) → ltb n 2147483648 ≡ t → to_z w32 n ≡ signed32 n
    go true e = low_is n (ltb→lt n 2147483648 (of_true e))
    go false e = high_is n (nltb→le n 2147483648 (subst⁻¹ (λ (t : Bool). T (not t)) e tt)) fits
