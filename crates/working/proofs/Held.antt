-- The points of codes, held by their coordinates in two arrays, one more at a time.
use mathlib.Core.Path.{◌≡◌, refl, sym, ap, ap₂, ◌∙◌}
use mathlib.Core.List.{List}
use Prim.Native.Nat.{ℕ, ◌+◌, ◌≤◌, ◌<◌}
use native.Mathlib.Decide.{ℕ_discrete}
use native.Mathlib.Omega.{arith}
use lib.ListN.{length, get_or, set, length-set}
use lib.Seq.{get_or-set_same, get_or-set_other}
use Rattle.plane.specs.Code.{x_of, y_of, point_of}
use Rattle.plane.specs.Stored.{point_at}
use Rattle.keys.specs.Held.{held}

-- The first i of n codes are passed.
pub record Unpacked (codes : List ℕ) (n : ℕ) (xs₀ ys₀ xs ys : List ℕ) (i : ℕ) : Type 0 where
  pub within : i ≤ n
  pub size_x : length xs ≡ length xs₀
  pub size_y : length ys ≡ length ys₀
  pub points : (j : ℕ) → j < i → held xs ys j ≡ point_of (get_or codes j 0)

pub unpacked_none : (codes : List ℕ) (n : ℕ) (xs ys : List ℕ) → Unpacked codes n xs ys xs ys 0
unpacked_none codes n xs ys = record { within = omega arith; size_x = refl; size_y = refl; points = λ j h. absurd (omega arith) }

pub unpacked_more : (codes : List ℕ) (n : ℕ) (xs₀ ys₀ xs ys : List ℕ) (i x y : ℕ) → Unpacked codes n xs₀ ys₀ xs ys i → i < n
    → n ≤ length xs₀ → n ≤ length ys₀ → x ≡ x_of (get_or codes i 0) → y ≡ y_of (get_or codes i 0)
    → Unpacked codes n xs₀ ys₀ (set xs i x) (set ys i y) (i + 1)
unpacked_more codes n xs₀ ys₀ xs ys i x y u h hx hy ex ey =
    record {
      within = omega arith;
      size_x = simp length-set u.size_x;
      size_y = simp length-set u.size_y;
      points = λ j l. at j (ℕ_discrete j i) (omega arith);
    }
  where
    at : (j : ℕ) → Dec (j ≡ i) → j ≤ i → held (set xs i x) (set ys i y) j ≡ point_of (get_or codes j 0)
    at j (yes e) l =
        ap (held (set xs i x) (set ys i y)) e
        ∙ ap₂ point_at (get_or-set_same xs i x 0 (omega (arith, u.size_x)) ∙ ex) (get_or-set_same ys i y 0 (omega (arith, u.size_y)) ∙ ey)
        ∙ ap (λ (z : ℕ). point_of (get_or codes z 0)) (sym e)
    at j (no n) l = ap₂ point_at (get_or-set_other xs i j x 0 n) (get_or-set_other ys i j y 0 n) ∙ u.points j (omega arith)
