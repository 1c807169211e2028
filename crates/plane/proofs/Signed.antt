-- Signed numbers of 32 bits: what a test of them says, when a sum fits, and what a bound on one says. By natural numbers:
-- a test of two whole numbers and a bound on one are linear facts on their parts `plus` and `minus`.
use mathlib.Core.Path.{◌≡◌, sym, ap, ◌∙◌, subst}
use mathlib.Core.Logic.{⊎_elim}
use mathlib.Core.Bool.{Bool, true, false, ◌&&◌, cond}
use Prim.Native.Nat.{ℕ, suc, ◌+◌, ◌-◌, ◌*◌, ◌/◌, ◌≤◌, ◌<◌}
use native.Mathlib.Omega.{arith}
use native.Mathlib.Decide.{dec_lt, dec_le}
use lib.Dec.{T, ltb, leb, leb→le, le→leb}
use lib.IntN.{ℤ, pos, negsuc, nat_abs, sub_ℕ, ◌+ℤ◌, ◌-ℤ◌}
use lib.Signed.{non_neg, lt_z, le_z}
use mir.Syntax.{Width, w16, w32}
use mir.Val.{Fits, SFits, to_z}
use mir.ValLaws.{to_z_pos, to_z-neg}
use Rattle.plane.specs.Coordinate.{half_range}
use Rattle.arrays.proofs.Signed.{read, read_is, read_one}
use Rattle.arrays.proofs.Test.{and_parts, and_both, same_test}
use Rattle.plane.proofs.Whole.{plus, minus, one_sided, abs_value, sub_value, add_value, difference_value, whole_ext}
use Rattle.plane.proofs.Whole.{less_value, value_less, atmost_value, value_atmost}
use Rattle.plane.proofs.Stored.{moved}

-- What a test says.
pub less_yes : (a b : ℤ) → lt_z a b ≡ true → plus a + minus b < plus b + minus a
less_yes a b e = less_value a b (subst T (sym e) tt)

pub less_no : (a b : ℤ) → lt_z a b ≡ false → plus b + minus a ≤ plus a + minus b
less_no a b e = go (dec_lt (plus a + minus b) (plus b + minus a))
  where
    go : Dec (plus a + minus b < plus b + minus a) → plus b + minus a ≤ plus a + minus b
    go (yes h) = absurd (subst T e (value_less a b h))
    go (no n) = omega arith

pub most_yes : (a b : ℤ) → le_z a b ≡ true → plus a + minus b ≤ plus b + minus a
most_yes a b e = atmost_value a b (subst T (sym e) tt)

pub most_no : (a b : ℤ) → le_z a b ≡ false → plus b + minus a < plus a + minus b
most_no a b e = go (dec_le (plus a + minus b) (plus b + minus a))
  where
    go : Dec (plus a + minus b ≤ plus b + minus a) → plus b + minus a < plus a + minus b
    go (yes h) = absurd (subst T e (value_atmost a b h))
    go (no n) = omega arith

-- These four, for `omega` to take a test from where it stands.
pub ruleset tests = (less_yes, less_no, most_yes, most_no)

-- The numbers that 16 bits hold, and 32.
pub short_bounds : (z : ℤ) → SFits w16 z → (plus z < 32768) × (minus z ≤ 32768)
short_bounds (pos n) f = (f.sfits, omega arith)
short_bounds (negsuc n) f = (omega arith, omega (arith, f.sfits))

pub bounds : (z : ℤ) → SFits w32 z → (plus z < 2147483648) × (minus z ≤ 2147483648)
bounds (pos n) f = (f.sfits, omega arith)
bounds (negsuc n) f = (omega arith, omega (arith, f.sfits))

pub fits_by : (z : ℤ) → plus z < 2147483648 → minus z ≤ 2147483648 → SFits w32 z
fits_by (pos n) h k = record { sfits = h }
fits_by (negsuc n) h k = record { sfits = omega arith }

-- A sum of two with unlike signs fits.
pub sum_fits : (a b : ℤ) → SFits w32 a → SFits w32 b → minus a ≤ plus a → plus b ≤ minus b → SFits w32 (a +ℤ b)
sum_fits a b f g h k =
    fits_by (a +ℤ b)
    (⊎_elim (λ e. omega (arith, bounds a f, add_value a b)) (λ e. omega (arith, bounds a f, add_value a b)) (one_sided (a +ℤ b)))
    (⊎_elim (λ e. omega (arith, bounds b g, add_value a b)) (λ e. omega (arith, bounds b g, add_value a b)) (one_sided (a +ℤ b)))

-- A number that is at most so large without its sign lies between two bounds.
pub between : (k : ℕ) (z : ℤ) → le_z (negsuc k) z && le_z z (pos (suc k)) ≡ leb (nat_abs z) (suc k)
between k z =
    same_test (le_z (negsuc k) z && le_z z (pos (suc k))) (leb (nat_abs z) (suc k))
    (λ t. let h = and_parts (le_z (negsuc k) z) (le_z z (pos (suc k))) t in
    let a = atmost_value (negsuc k) z h.0 in
    let b = atmost_value z (pos (suc k)) h.1 in
    le→leb (nat_abs z) (suc k) (⊎_elim (λ e. omega (arith, abs_value z)) (λ e. omega (arith, abs_value z)) (one_sided z)))
    (λ t. let h = leb→le (nat_abs z) (suc k) t in
    and_both (le_z (negsuc k) z) (le_z z (pos (suc k))) (value_atmost (negsuc k) z (omega (arith, abs_value z)))
    (value_atmost z (pos (suc k)) (omega (arith, abs_value z))))

-- Raised by that bound it is not negative, and at most twice the bound.
pub raised : (k : ℕ) (z : ℤ) → nat_abs z ≤ k → (z +ℤ pos k ≡ pos (nat_abs (z +ℤ pos k))) × (nat_abs (z +ℤ pos k) ≤ k + k)
raised k z h =
    let m = moved z k (omega (arith, abs_value z)) in
    (whole_ext (z +ℤ pos k) (pos (nat_abs (z +ℤ pos k))) (omega (arith, add_value z (pos k), m)), omega (arith, m, abs_value z))

-- The program raises what is read back from 32 bits: the sum fits, is read back as it is, and fits where a natural number so large does.
module _ (k : ℕ) (z : ℤ) (f : SFits w32 z) (t : T (leb (nat_abs z) k)) (small : k ≤ 1000000) where
  raised_sum : read z +ℤ pos k ≡ pos (nat_abs (z +ℤ pos k))
  raised_sum = read_one (λ (y : ℤ). y +ℤ pos k) f ∙ (raised k z (leb→le (nat_abs z) k t)).0

  pub raised_most : nat_abs (z +ℤ pos k) ≤ k + k
  raised_most = (raised k z (leb→le (nat_abs z) k t)).1

  pub raised_fits : SFits w32 (read z +ℤ pos k)
  raised_fits = subst (SFits w32) (sym raised_sum) (record { sfits = omega (arith, raised_most, small) })

  pub raised_read : read (read z +ℤ pos k) ≡ pos (nat_abs (z +ℤ pos k))
  raised_read = read_is raised_fits raised_sum

  pub raised_cast : (w : Width) → Fits w (nat_abs (z +ℤ pos k)) → T (non_neg (read (read z +ℤ pos k))) × Fits w (nat_abs (read (read z +ℤ pos k)))
  raised_cast w h = subst (λ (y : ℤ). T (non_neg y) × Fits w (nat_abs y)) (sym raised_read) (tt, h)

-- The difference of two numbers of 31 bits.
pub lowered : (a b : ℕ) → pos a -ℤ pos b ≡ sub_ℕ a b
lowered a b = whole_ext (pos a -ℤ pos b) (sub_ℕ a b) (omega (arith, difference_value (pos a) (pos b), sub_value a b))

-- A number of 16 bits read as two's complement.
pub short_lowered : (low high : ℕ) → low < 256 → high < 256 → to_z w16 (low + high * 256) ≡ sub_ℕ (low + 256 * high) (65536 * (high / 128))
short_lowered low high h k = go (dec_lt high 128)
  where
    go : Dec (high < 128) → to_z w16 (low + high * 256) ≡ sub_ℕ (low + 256 * high) (65536 * (high / 128))
    go (yes l) =
        to_z_pos w16 (low + high * 256) (omega arith)
        ∙ whole_ext (pos (low + high * 256)) (sub_ℕ (low + 256 * high) (65536 * (high / 128)))
        (omega (arith, sub_value (low + 256 * high) (65536 * (high / 128))))
    go (no n) =
        let e : low + high * 256 ≡ 65536 - suc (65535 - (low + high * 256)) = omega arith in
        ap (to_z w16) e ∙ to_z-neg w16 (65535 - (low + high * 256)) (omega arith)
        ∙ whole_ext (negsuc (65535 - (low + high * 256))) (sub_ℕ (low + 256 * high) (65536 * (high / 128)))
        (omega (arith, sub_value (low + 256 * high) (65536 * (high / 128))))

pub lowered_fits : (a b : ℕ) → a < half_range → b < half_range → SFits w32 (sub_ℕ a b)
lowered_fits a b h k = go (ltb a b)
  where
    go : (t : Bool) → SFits w32 (cond t (negsuc (b - suc a)) (pos (a - b)))
    go true = record { sfits = omega arith }
    go false = record { sfits = omega arith }
