-- The rows of a column at which no point is held, and what was found among them as the answer.
use Rattle.std.specs.Prelude.{Bool, not, List, ℕ, ◌+◌, ◌*◌, ltb, Option, Some, None}
use Rattle.std.proofs.Math.IntN.{sub_ℕ}
use Rattle.arrays.specs.Set.{has}
use Rattle.plane.specs.Code.{packed}
use Rattle.plane.specs.Coordinate.{coordinate}
use Rattle.regions.specs.Rays.{far}
use Rattle.search.specs.declared.found.Crossing.{Crossing}
use Rattle.search.specs.declared.found.Greatest.{Greatest}
use Rattle.columns.specs.declared.Candidate.{Candidate}
use Rattle.columns.specs.Column.{ColumnAnswer, no_candidate, chosen}

-- Whether none of the codes is where the column x meets the row y.
abbrev pub is_free : List ℕ → ℕ → ℕ → Bool
is_free codes x y = not (has ltb (packed x y) codes)

-- The answer of a column, as the program's candidate or none.
abbrev pub choice_of : ColumnAnswer → Option Candidate
choice_of no_candidate = None
choice_of (chosen c v) = Some (record { x = c.x; y = c.y; saving = v })

-- What the search found with a gain, as the answer: what a crossing gains above `far` and the two tails of its run is its saving.
abbrev pub choice_with : ℕ → ℕ → Option Crossing → Option Candidate
choice_with tail gain None = None
choice_with tail gain (Some at) = Some (record { x = coordinate at.x; y = coordinate at.y; saving = sub_ℕ gain (far + 2 * tail) })

abbrev pub choice_found : ℕ → Greatest → Option Candidate
choice_found tail g = choice_with tail g.gain g.best
