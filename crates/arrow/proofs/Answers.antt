-- What is indicated, by the tests in their order.
use mathlib.Core.Path.{◌≡◌, refl}
use mathlib.Core.Bool.{true, false, ◌&&◌}
use Prim.Native.Nat.{ℕ}
use native.Mathlib.Omega.{arith}
use lib.IntN.{ℤ}
use mir.Syntax.{w16, w32}
use mir.Val.{SFits}
use mir.ValLaws.{to_z-of_z}
use Rattle.arrays.proofs.Signed.{read, short}
use Rattle.plane.specs.Point.{Point, point}
use Rattle.model.specs.Refusal.{first_failed}
use Rattle.std.proofs.Common.{Result, Ok, Err}
use Rattle.table.specs.Table.{in_table, entry}
use Rattle.arrow.specs.Arrow.{is_pitch, pitches, arrow_checks, arrow}

-- An arrow is no refusal, and each has one number.
pub same_arrow : {i j : ℕ} → ◌≡◌ {A = Result ℕ ℕ} (Ok i) (Ok j) → i ≡ j
same_arrow e = cc

pub same_refusal : {i j : ℕ} → ◌≡◌ {A = Result ℕ ℕ} (Err i) (Err j) → i ≡ j
same_refusal e = cc

pub arrow_no_refusal : {i j : ℕ} → ◌≡◌ {A = Result ℕ ℕ} (Ok i) (Err j) → ⊥
arrow_no_refusal e = let z : ◌≡◌ {A = ℕ} 0 1 = cc in omega arith

-- The pitches in x and in y from one point to another.
abbrev pub x-pitches : Point → Point → ℤ → ℤ
x-pitches display bay p = pitches display.x bay.x p

abbrev pub y-pitches : Point → Point → ℤ → ℤ
y-pitches display bay p = pitches display.y bay.y p

module _ (display bay : Point) (p : ℤ) where
  pub bad_pitch_lem : is_pitch p ≡ false → Err 13 ≡ arrow display bay p
  unfolding first_failed arrow_checks arrow
  bad_pitch_lem e = rw e refl

  pub far : is_pitch p ≡ true → in_table (x-pitches display bay p) && in_table (y-pitches display bay p) ≡ false → Err 14 ≡ arrow display bay p
  unfolding first_failed arrow_checks arrow
  far e f = rw (e, f) refl

  pub near : is_pitch p ≡ true → in_table (x-pitches display bay p) && in_table (y-pitches display bay p) ≡ true
      → Ok (entry (x-pitches display bay p) (y-pitches display bay p)) ≡ arrow display bay p
  unfolding first_failed arrow_checks arrow
  near e f = rw (e, f) refl

-- The pitches of what is read back from bits.
pub read-pitches : (from to p : ℤ) → SFits w16 from → SFits w16 to → SFits w32 p → pitches (short from) (short to) (read p) ≡ pitches from to p
read-pitches from to p f g h i = pitches (to_z-of_z w16 from f i) (to_z-of_z w16 to g i) (to_z-of_z w32 p h i)

-- The arrow of what is read back, for callers.
pub read-arrow : (x y u v p : ℤ) → SFits w16 x → SFits w16 y → SFits w16 u → SFits w16 v → SFits w32 p
    → arrow (point (short x) (short y)) (point (short u) (short v)) (read p) ≡ arrow (point x y) (point u v) p
read-arrow x y u v p f g h k l i =
    arrow (point (to_z-of_z w16 x f i) (to_z-of_z w16 y g i)) (point (to_z-of_z w16 u h i) (to_z-of_z w16 v k i)) (to_z-of_z w32 p l i)
