-- The points of a section as codes, and check 5 on them (SPEC 8.2).
use Rattle.std.specs.Prelude.{◌≡◌, Bool, true, false, ◌&&◌, List, map, ℕ, ◌+◌, ◌-◌, ◌/◌, Option, MatchOption, ltb, get_or}
use Rattle.plane.specs.Point.{Point, in_range}
use Rattle.plane.specs.Coordinate.{signed16}
use Rattle.arrays.specs.Set.{rising, all}
use Rattle.model.specs.State.{max_pins, placed}
use Rattle.model.specs.File.{shortest, longest, file_state}
use Rattle.points.specs.Coded.{padded}
use Rattle.sections.specs.declared.codes.FilePoints.{FilePoints}
use Rattle.plane.specs.Code.{code}
use Rattle.arrays.specs.Array.{none_in}

-- The point in the four bytes from place i on.
abbrev pub point_in : List ℕ → ℕ → Point
point_in b i = record { x = signed16 (get_or b i 0) (get_or b (i + 1) 0); y = signed16 (get_or b (i + 2) 0) (get_or b (i + 3) 0) }

-- The codes of points that are all in range, at the front of an array of n places.
abbrev pub decoded : ℕ → List Point → Option (List ℕ) → Type 0
decoded n ps r = MatchOption r (all in_range ps ≡ false) (λ codes. (all in_range ps ≡ true) × (codes ≡ padded n (map code ps)))

-- What check 5 still asks where all points are in range, on their codes.
abbrev pub placed_codes : List ℕ → List ℕ → Bool
placed_codes pins steiner = rising ltb pins && (rising ltb steiner && none_in steiner pins)

-- Places for all points that a file can show.
abbrev pub file_places : ℕ
file_places = (longest - shortest) / 4

-- Check 5 passes, and these are the codes of the points that the file shows.
pub record Decodes (b : List ℕ) (found : FilePoints) : Type 0 where
  pub passes : placed (file_state b) ≡ true
  pub pins : found.pins ≡ padded max_pins (map code (file_state b).pins)
  pub steiner : found.steiner ≡ padded file_places (map code (file_state b).steiner)
