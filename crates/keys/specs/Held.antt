-- Points kept as two slices of stored coordinates.
use Rattle.std.specs.Prelude.{List, ℕ, get_or}
use Rattle.plane.specs.Point.{Point}
use Rattle.plane.specs.Stored.{point_at}

-- The i-th point.
abbrev pub held : List ℕ → List ℕ → ℕ → Point
held xs ys i = point_at (get_or xs i 0) (get_or ys i 0)
