-- The frame as the program keeps it.
use Rattle.std.specs.Prelude.{List, ℕ, get_or}
use Rattle.plane.specs.Point.{Point}
use Rattle.plane.specs.Coordinate.{coordinate}
use Rattle.plane.specs.Stored.{point_at}
use Rattle.frame.specs.declared.Frame.{Frame}
use Rattle.frame.specs.Frame.{Box}

-- The i-th of the points whose stored coordinates are given.
abbrev pub stored_point : List ℕ → List ℕ → ℕ → Point
stored_point xs ys i = point_at (get_or xs i 0) (get_or ys i 0)

-- The box of a frame.
abbrev pub box_in : Frame → Box
box_in f = record { left = coordinate f.left; top = coordinate f.top; width = f.width; height = f.height }
