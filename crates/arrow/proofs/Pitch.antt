-- The pitches between two coordinates of 16 bits: each number is read back from its bits, and the difference and the quotient fit.
use mathlib.Core.Path.{◌≡◌, sym, ap₂, subst}
use mathlib.Core.Logic.{⊎_elim}
use Prim.Native.Nat.{ℕ, ◌≤◌, ◌<◌}
use native.Mathlib.Nat.{div-le_self}
use native.Mathlib.Omega.{arith}
use lib.Dec.{T, leb→le}
use lib.IntN.{ℤ, pos, negsuc, nat_abs, ◌-ℤ◌}
use lib.Signed.{le_z, quot_z}
use mir.Syntax.{w16, w32}
use mir.Val.{SFits, of_z}
use mir.ValLaws.{to_z-of_z}
use Rattle.arrays.proofs.Signed.{read, read_is, short, short-read}
use Rattle.arrays.proofs.Test.{and_parts}
use Rattle.plane.proofs.Whole.{one_sided, abs_value, difference_value}
use Rattle.plane.proofs.Signed.{short_bounds, fits_by}
use Rattle.arrow.specs.Arrow.{is_pitch, pitches}
use Rattle.arrow.proofs.Quotient.{quotient-size}

-- A pitch that is taken, as a natural number.
pub pitch_is : (p : ℤ) → T (is_pitch p) → (n : ℕ) × (p ≡ pos n) × (1 ≤ n) × (n ≤ 1000)
pitch_is (pos n) t =
    let h = and_parts (le_z (pos 1) (pos n)) (le_z (pos n) (pos 1000)) t in
    (n, λ i. pos n, leb→le 1 n h.0, leb→le n 1000 h.1)
pitch_is (negsuc n) t = absurd t

module _ (from to p : ℤ) (f : SFits w16 from) (g : SFits w16 to) (h : SFits w32 p) (t : T (is_pitch p)) where
  away : read (short to) -ℤ read (short from) ≡ to -ℤ from
  away = ap₂ (λ a b. a -ℤ b) (short-read g) (short-read f)

  away_small : nat_abs (to -ℤ from) ≤ 65536
  away_small =
      ⊎_elim (λ e. omega (arith, abs_value (to -ℤ from), difference_value to from, short_bounds from f, short_bounds to g))
      (λ e. omega (arith, abs_value (to -ℤ from), difference_value to from, short_bounds from f, short_bounds to g))
      (one_sided (to -ℤ from))

  pub away_fits : SFits w32 (read (short to) -ℤ read (short from))
  away_fits =
      subst (SFits w32) (sym away)
      (fits_by (to -ℤ from) (omega (arith, away_small, abs_value (to -ℤ from))) (omega (arith, away_small, abs_value (to -ℤ from))))

  quotient : quot_z (read (read (short to) -ℤ read (short from))) (read p) ≡ pitches from to p
  quotient = ap₂ quot_z (read_is away_fits away) (to_z-of_z w32 p h)

  small : nat_abs (pitches from to p) ≤ 65536
  small =
      let n = pitch_is p t in
      subst (λ (q : ℤ). nat_abs (quot_z (to -ℤ from) q) ≤ 65536) (sym n.1)
      (omega (arith, quotient-size (to -ℤ from) n.0, div-le_self (nat_abs (to -ℤ from)) n.0, away_small))

  pub pitch_divides : (0 < of_z w32 p) × SFits w32 (quot_z (read (read (short to) -ℤ read (short from))) (read p))
  pitch_divides =
      let n = pitch_is p t in (
        subst (λ (q : ℤ). 0 < of_z w32 q) (sym n.1) n.2,
        subst (SFits w32) (sym quotient)
            (fits_by (pitches from to p) (omega (arith, small, abs_value (pitches from to p))) (omega (arith, small, abs_value (pitches from to p)))),
      )

  pub pitches-read : read (quot_z (read (read (short to) -ℤ read (short from))) (read p)) ≡ pitches from to p
  pitches-read = read_is pitch_divides.1 quotient
