-- Examples: where three points are drawn, and one (SPEC 9.9).
use Rattle.std.specs.Prelude.{◌≡◌, List, [], ◌∷◌, map, ℕ, pos}
use Rattle.plane.specs.Point.{Point, point, gap}
use Rattle.plane.specs.Box.{extreme, spread}
use Rattle.frame.specs.Frame.{lowest, highest, box_of, long_side, across_at, down_at}

-- Where a point is drawn: how far from the left and from above.
pub record Position : Type 0 where
  pub across : ℕ
  pub down : ℕ

-- Where a point is drawn in the picture of some points.
unfoldable pub place_in : List Point → Point → Position
unfolding gap extreme spread lowest highest box_of long_side across_at down_at
place_in ps p = let b = box_of ps in record { across = across_at b p.x; down = down_at b p.y }

abbrev pub three_pins : List Point
three_pins = point (pos 0) (pos 0) ∷ point (pos 5) (pos 8) ∷ point (pos 10) (pos 0) ∷ []

abbrev pub ThreePlaces : Type 0
ThreePlaces =
    map (place_in three_pins) three_pins
    ≡ record { across = 200; down = 3400 } ∷ record { across = 2200; down = 200 } ∷ record { across = 4200; down = 3400 } ∷ []

abbrev pub OnePlace : Type 0
OnePlace = let p = point (pos 7) (pos 7) in place_in (p ∷ []) p ≡ record { across = 220; down = 20 }
