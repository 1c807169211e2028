-- Places for points in an array.
use Rattle.std.specs.Prelude.{ℕ}

-- A deck has at most 126 points, and 127 during a round. 128 is the next power of two: the number of a point has seven bits.
abbrev pub places : ℕ
places = 128
