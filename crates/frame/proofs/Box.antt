-- The box around points whose stored coordinates are given: each of its sides comes from the coordinates along one axis.
use mathlib.Core.Path.{◌≡◌, refl, sym, ap, ap₂, ◌∙◌}
use mathlib.Core.List.{List, [], ◌∷◌, map}
use Prim.Native.Nat.{ℕ}
use native.Mathlib.Omega.{arith}
use lib.IntN.{ℤ}
use lib.ListN.{length}
use lib.Seq.{take_all}
use Rattle.arrays.specs.Tab.{tab}
use Rattle.arrays.proofs.Tab.{tab-map}
use Rattle.plane.specs.Point.{Point, gap}
use Rattle.plane.specs.Coordinate.{coordinate}
use Rattle.plane.specs.Box.{spread}
use Rattle.frame.specs.declared.Frame.{Frame}
use Rattle.frame.specs.Frame.{Box, lowest, highest, box_of}
use Rattle.frame.specs.Stored.{stored_point, box_in}

-- Whole numbers spread from the least to the greatest.
pub spread-ends : (l : List ℤ) → gap (lowest l) (highest l) ≡ spread l
unfolding lowest highest spread gap
spread-ends [] = refl
spread-ends (a ∷ l) = refl

module _ (xs ys : List ℕ) (same : length xs ≡ length ys) where
  abbrev columns : List ℤ
  columns = map coordinate xs

  abbrev rows : List ℤ
  rows = map coordinate ys

  abbrev sides : List ℤ → List ℤ → Box
  sides x y = record { left = lowest x; top = highest y; width = spread x; height = spread y }

  abbrev points : List Point
  points = tab (stored_point xs ys) (length xs)

  -- The coordinates of the points along each axis.
  along_x : map (λ (p : Point). p.x) points ≡ columns
  along_x =
      tab-map (stored_point xs ys) (λ (p : Point). p.x) coordinate xs (λ i. refl) (length xs) (omega arith)
      ∙ ap (map coordinate) (take_all (length xs) xs (omega arith))

  along_y : map (λ (p : Point). p.y) points ≡ rows
  along_y =
      tab-map (stored_point xs ys) (λ (p : Point). p.y) coordinate ys (λ i. refl) (length xs) (omega arith)
      ∙ ap (map coordinate) (take_all (length xs) ys (omega arith))

  -- The box by what was found along each axis.
  pub box_is : (f : Frame) (right bottom : ℕ) → coordinate f.left ≡ lowest columns → coordinate right ≡ highest columns
      → coordinate bottom ≡ lowest rows → coordinate f.top ≡ highest rows → f.width ≡ gap (coordinate f.left) (coordinate right)
      → f.height ≡ gap (coordinate bottom) (coordinate f.top) → box_in f ≡ box_of points
  unfolding box_of
  box_is f right bottom l r b t w h =
      (λ i. record { left = l i; top = t i; width = (w ∙ ap₂ gap l r ∙ spread-ends columns) i; height = (h ∙ ap₂ gap b t ∙ spread-ends rows) i })
      ∙ ap₂ sides (sym along_x) (sym along_y)
