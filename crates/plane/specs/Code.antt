-- Points as single numbers.
use Rattle.std.specs.Prelude.{Bool, ◌&&◌, ℕ, ◌+◌, ◌*◌, ◌/◌, ◌%◌, leb, Option, Some, None}
use Rattle.arrays.specs.Test.{if}
use Rattle.plane.specs.Point.{Point, in_range}
use Rattle.plane.specs.Coordinate.{base, stored_limit, stored_of}
use Rattle.plane.specs.Stored.{point_at}

-- Two stored coordinates in one number, and each of them out of it. What the number holds above both does not count.
abbrev pub packed : ℕ → ℕ → ℕ
packed x y = x * base + y

abbrev pub x_of : ℕ → ℕ
x_of k = k / base % base

abbrev pub y_of : ℕ → ℕ
y_of k = k % base

-- The code of a point in range (SPEC 5.1): of two points the lower has the smaller code.
unfoldable pub code : Point → ℕ
code p = packed (stored_of p.x) (stored_of p.y)

-- The point of a code.
abbrev pub point_of : ℕ → Point
point_of k = point_at (x_of k) (y_of k)

-- Whether a number is the code of a point in range.
abbrev pub is_code : ℕ → Bool
is_code k = leb (k / base) stored_limit && leb (k % base) stored_limit

-- The code of a point, none where it is out of range.
unfoldable pub located : Point → Option ℕ
located p = if (in_range p) (λ _. Some (code p)) (λ _. None)
