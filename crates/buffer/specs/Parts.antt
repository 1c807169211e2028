-- The header and the sections of a file, one behind the other.
use Rattle.std.specs.Prelude.{Bool, ℕ, ◌+◌, ◌≤◌, length}
use mathlib.Core.List.{List, ◌++◌, flatten}
use Rattle.model.specs.State.{max_pins}
use Rattle.model.specs.Sections.{header, file_size}
use Rattle.model.specs.File.{kind_sections, sizes_of}
use Rattle.points.specs.Coded.{max_steiner}
use Rattle.arrays.specs.Paste.{each}
use Rattle.sections.specs.Bytes.{ends_bytes, code_bytes}

-- The file of pins and Steiner points kept as codes, and of the edges of their tree kept as numbers, up to the edges; `bare` says that all
-- pins are sensors.
abbrev pub tree_parts : List ℕ → List ℕ → List ℕ → Bool → List ℕ
tree_parts pins steiner ends bare =
    header (sizes_of (length pins) (length steiner) (length ends) bare) ++ (each code_bytes pins ++ (each code_bytes steiner ++ each ends_bytes ends))

-- The whole file, with the kinds of the pins where it has a section of them.
abbrev pub file_parts : List ℕ → List ℕ → List ℕ → List ℕ → Bool → List ℕ
file_parts pins steiner ends kinds bare = tree_parts pins steiner ends bare ++ flatten (kind_sections bare kinds)

-- What is to be written is no more than a deck has, and there is room for it.
pub record PartsFit (pins steiner ends : List ℕ) (bare : Bool) (out : List ℕ) : Type 0 where
  pub pins_few : length pins ≤ max_pins
  pub steiner_few : length steiner ≤ max_steiner
  pub ends_few : length ends ≤ max_pins + max_steiner
  pub room : file_size (sizes_of (length pins) (length steiner) (length ends) bare) ≤ length out
