-- The listing order of edges by numbers.
use Rattle.std.specs.Prelude.{List, ℕ, ◌+◌, ◌*◌}
use Rattle.plane.specs.Point.{Point}
use Rattle.plane.specs.Places.{places}
use Rattle.plane.specs.Edge.{Edge}
use Rattle.model.specs.File.{number_of}

-- The two numbers of an edge between two of the points as one number, as `ends_of` has those of a key.
abbrev pub ends_at : List Point → Edge → ℕ
ends_at ps e = number_of ps e.lo * places + number_of ps e.hi
