-- The point of two stored coordinates, and tests counted.
use Rattle.std.specs.Prelude.{Bool, true, false, ℕ}
use Rattle.plane.specs.Point.{Point}
use Rattle.plane.specs.Coordinate.{coordinate}

-- The point whose coordinates are stored as x and y.
abbrev pub point_at : ℕ → ℕ → Point
point_at x y = record { x = coordinate x; y = coordinate y }

-- What a test adds to a count of those that pass.
abbrev pub one : Bool → ℕ
one true = 1
one false = 0
