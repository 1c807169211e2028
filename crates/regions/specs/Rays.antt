-- A ray is an edge from a crossing to a held point as one number: its length times 128, and the point's number.
use Rattle.std.specs.Prelude.{ℕ, ◌+◌, ◌*◌, ◌/◌, ◌%◌}
pub use Rattle.plane.specs.Places.{places}

-- A table of 128 rows of 128: an entry for each two points, or for each point and row.
abbrev pub table_size : ℕ
table_size = places * places

-- An edge of length d to the point j.
abbrev pub ray : ℕ → ℕ → ℕ
ray d j = d * places + j

-- Its length and its point.
abbrev pub ray_length : ℕ → ℕ
ray_length k = k / places

abbrev pub ray_point : ℕ → ℕ
ray_point k = k % places

-- Longer than every edge between two points: stored coordinates are at most 65,535 apart on each axis.
abbrev pub far : ℕ
far = 131072

-- The ray of an edge of length `far` to point 0, which stands for no point.
abbrev pub far_ray : ℕ
far_ray = far * places
