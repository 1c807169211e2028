-- Points and edges kept as numbers, in bytes.
use Rattle.std.specs.Prelude.{List, [], ◌∷◌, ℕ, ◌/◌, ◌%◌}
use Rattle.arrays.specs.Paste.{each}
use Rattle.plane.specs.Code.{point_of}
use Rattle.model.specs.File.{point_bytes}

-- An edge kept as 128 times the first number and the second: two bytes, the first number first.
abbrev pub ends_bytes : ℕ → List ℕ
ends_bytes k = k / 128 % 256 ∷ k % 128 ∷ []

-- The bytes of several edges.
abbrev pub edge_bytes : List ℕ → List ℕ
edge_bytes l = each ends_bytes l

-- The point of a code: four bytes.
abbrev pub code_bytes : ℕ → List ℕ
code_bytes k = point_bytes (point_of k)
