-- The answers to questions on directions (SPEC 9.3 to 9.5), without a line feed.
use Rattle.std.specs.Prelude.{List, [], ◌∷◌, ◌++◌, ℕ, eqb, ℤ}
use Rattle.arrays.specs.Test.{if, if_natural}
use Rattle.arrays.specs.Text.{byte, bytes}
use Rattle.plane.specs.Point.{point}
use Rattle.octants.specs.Octant.{octant_count, octant}
use Rattle.model.specs.Listing.{field, decimal, refused_word}
use Rattle.std.specs.Prelude.{Result, Ok, Err}
use Rattle.arrow.specs.Arrow.{arrow, glyph}
use Rattle.commands.specs.declared.Direction.{Direction}
use Rattle.commands.specs.declared.Direction.TheVariants as direction
use Rattle.ascii.specs.Line.{error_word, number_text}

-- The words octant, arrow, glyph.
abbrev pub octant_word : List ℕ
octant_word = bytes "octant"

abbrev pub arrow_word : List ℕ
arrow_word = bytes "arrow"

abbrev pub glyph_word : List ℕ
glyph_word = bytes "glyph"

-- Room for the line of an arrow.
abbrev pub arrow_room : ℕ
arrow_room = 28

-- An arrow and its glyph: `arrow N GLYPH`.
abbrev pub arrow_text : ℕ → List ℕ
arrow_text n = arrow_word ++ (field (decimal n) ++ field (glyph n ∷ []))

-- The line of what a display shows.
unfoldable pub indication_text : Result ℕ ℕ → List ℕ
indication_text (Err n) = number_text refused_word n
indication_text (Ok n) = arrow_text n

-- A glyph: `glyph G`.
abbrev pub glyph_text : ℕ → List ℕ
glyph_text g = glyph_word ++ field (g ∷ [])

-- `octant DX DY`: `error` for 0 0.
abbrev pub octant_text : ℤ → ℤ → List ℕ
octant_text x y = let k = octant x y in if (eqb k octant_count) (λ _. error_word) (λ _. number_text octant_word k)

-- `glyph N`: the glyph of any whole number; a negative one is no arrow.
unfoldable pub glyph_of : ℤ → ℕ
glyph_of = if_natural glyph (byte "?")

-- `octant DX DY`, `arrow DISPLAYX DISPLAYY BAYX BAYY PITCH`, `glyph N`.
unfoldable pub direction_text : Direction → List ℕ
direction_text (direction.Octant x y) = octant_text x y
direction_text (direction.Arrow x y u v pitch) = indication_text (arrow (point x y) (point u v) pitch)
direction_text (direction.Glyph n) = glyph_text (glyph_of n)
