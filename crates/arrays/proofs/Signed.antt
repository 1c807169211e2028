-- Signed numbers handed on are read back from their bits, 32 or 16: one that fits is the number itself. By the kit's law.
use mathlib.Core.Path.{◌≡◌, refl, sym, ◌∙◌, subst}
use mathlib.Core.Bool.{true, false}
use Prim.Native.Nat.{ℕ, ◌<◌}
use native.Mathlib.Omega.{arith}
use lib.Dec.{T}
use lib.IntN.{ℤ, pos, negsuc, nat_abs}
use lib.Signed.{lt_z, non_neg}
use borrow.Author.Tests.{ltb-true}
use Rattle.arrays.specs.Test.{if_natural}
use mir.Syntax.{w16, w32}
use mir.Val.{SFits, to_z, of_z}
use mir.Facts.{sfits_widen}
use mir.ValLaws.{to_z-of_z}

-- What is read back.
abbrev pub read : ℤ → ℤ
read z = to_z w32 (of_z w32 z)

pub read_is : {z y : ℤ} → SFits w32 z → z ≡ y → read z ≡ y
read_is {z} h e = to_z-of_z w32 z h ∙ e

pub read_fits : (z : ℤ) → SFits w32 z → SFits w32 (read z)
read_fits z h = subst (SFits w32) (sym (to_z-of_z w32 z h)) h

module _ {A : Type 0} where
  pub read_one : (f : ℤ → A) {x : ℤ} → SFits w32 x → f (read x) ≡ f x
  read_one f {x} h i = f (to_z-of_z w32 x h i)

  pub read_two : (f : ℤ → ℤ → A) (x y : ℤ) → SFits w32 x → SFits w32 y → f (read x) (read y) ≡ f x y
  read_two f x y h k i = f (to_z-of_z w32 x h i) (to_z-of_z w32 y k i)

  pub read-three : (f : ℤ → ℤ → ℤ → A) (x y u : ℤ) → SFits w32 x → SFits w32 y → SFits w32 u → f (read x) (read y) (read u) ≡ f x y u
  read-three f x y u h k l i = f (to_z-of_z w32 x h i) (to_z-of_z w32 y k i) (to_z-of_z w32 u l i)

  pub read-four : (f : ℤ → ℤ → ℤ → ℤ → A) (x y u v : ℤ) → SFits w32 x → SFits w32 y → SFits w32 u → SFits w32 v
      → f (read x) (read y) (read u) (read v) ≡ f x y u v
  read-four f x y u v h k l m i = f (to_z-of_z w32 x h i) (to_z-of_z w32 y k i) (to_z-of_z w32 u l i) (to_z-of_z w32 v m i)

  pub read_five : (f : ℤ → ℤ → ℤ → ℤ → ℤ → A) (x y u v z : ℤ) → SFits w32 x → SFits w32 y → SFits w32 u → SFits w32 v → SFits w32 z
      → f (read x) (read y) (read u) (read v) (read z) ≡ f x y u v z
  read_five f x y u v z h k l m n i = f (to_z-of_z w32 x h i) (to_z-of_z w32 y k i) (to_z-of_z w32 u l i) (to_z-of_z w32 v m i) (to_z-of_z w32 z n i)

-- What is read back from 16 bits; it fits 32 of them. A number of 32 bits that fits 16 is cut to them and read back as it is.
abbrev pub short : ℤ → ℤ
short z = to_z w16 (of_z w16 z)

module _ {z : ℤ} (f : SFits w16 z) where
  pub short-fits : SFits w32 (short z)
  short-fits = sfits_widen tt (subst (SFits w16) (sym (to_z-of_z w16 z f)) f)

  pub short-read : read (short z) ≡ z
  short-read = read_is short-fits (to_z-of_z w16 z f)

  pub cut_fits : SFits w16 (read z)
  cut_fits = subst (SFits w16) (sym (to_z-of_z w32 z (sfits_widen tt f))) f

  pub cut_read : short (read z) ≡ z
  cut_read = to_z-of_z w16 (read z) cut_fits ∙ to_z-of_z w32 z (sfits_widen tt f)

-- A number that is not negative is read as a natural number.
pub not_negative : (z : ℤ) → SFits w32 z → lt_z z (pos 0) ≡ false → T (non_neg z) × (nat_abs z < 2147483648)
not_negative (pos n) h e = (tt, h.sfits)
not_negative (negsuc n) h e = let k : ◌≡◌ {A = ℕ} 0 1 = cc in absurd (omega arith)

-- A choice by the sign.
module _ {A : Type 0} (f : ℕ → A) (a : A) where
  pub if_negative : (z : ℤ) → lt_z z (pos 0) ≡ true → a ≡ if_natural f a z
  if_negative (pos n) e = absurd (omega (arith, ltb-true n 0 e))
  if_negative (negsuc n) e = refl

  pub if_natural_lem : (z : ℤ) → lt_z z (pos 0) ≡ false → f (nat_abs z) ≡ if_natural f a z
  if_natural_lem (pos n) e = refl
  if_natural_lem (negsuc n) e = let z : ◌≡◌ {A = ℕ} 0 1 = cc in absurd (omega arith)
