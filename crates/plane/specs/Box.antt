-- The box around points, and its half perimeter (SPEC 6.6).
use Rattle.std.specs.Prelude.{Bool, ℕ, ◌+◌, T, ℤ}
use mathlib.Core.List.{List, [], ◌∷◌, map, Memᴰ}
use Rattle.std.specs.Int.Signed.{le_z}
use Rattle.arrays.specs.Test.{if}
use Rattle.plane.specs.Point.{Point, gap}

-- Of a and the numbers of a list the one that is at most each of them, where the test `le` says what "at most" is.
unfoldable pub extreme : (ℤ → ℤ → Bool) → ℤ → List ℤ → ℤ
extreme le a [] = a
extreme le a (b ∷ l) = let m = extreme le b l in if (le a m) (λ _. a) (λ _. m)

-- The least and the greatest of whole numbers, a and those of a list.
abbrev pub least : ℤ → List ℤ → ℤ
least a l = extreme le_z a l

abbrev pub greatest : ℤ → List ℤ → ℤ
greatest a l = extreme (λ (b c : ℤ). le_z c b) a l

-- How far whole numbers spread: from the least to the greatest, and 0 where there is none.
unfoldable pub spread : List ℤ → ℕ
spread [] = 0
spread (a ∷ l) = gap (least a l) (greatest a l)

-- The half perimeter of the box around points (SPEC 6.6): its width and its height.
unfoldable pub half_perimeter : List Point → ℕ
half_perimeter ps = spread (map (λ (p : Point). p.x) ps) + spread (map (λ (p : Point). p.y) ps)

-- The numbers of a list reach from `low` to `high`: both are in it, and no number of it is beyond them.
pub record Reaches (l : List ℤ) (low high : ℤ) : Type 0 where
  pub lowest : Memᴰ low l
  pub highest : Memᴰ high l
  pub between : (z : ℤ) → Memᴰ z l → T (le_z low z) × T (le_z z high)

-- The box around points as a relation, by its lower left and its upper right corner: no point is outside, and each side meets a point.
pub record BoxAround (ps : List Point) (low high : Point) : Type 0 where
  pub width : Reaches (map (λ (p : Point). p.x) ps) low.x high.x
  pub height : Reaches (map (λ (p : Point). p.y) ps) low.y high.y
