-- Examples: the answers to questions on directions.
use Rattle.std.specs.Prelude.{◌≡◌, List, [], ◌∷◌, ℕ, pos, negsuc}
use Prim.Native.String.{String}
use Rattle.arrays.specs.Tab.{tab}
use Rattle.arrays.specs.Text.{bytes}
use Rattle.octants.specs.Octant.{conditions, first_true, octant}
use Rattle.model.specs.Refusal.{first_failed}
use Rattle.model.specs.Listing.{digits_from}
use Rattle.table.specs.Table.{entry_at, arrow_table, entry}
use Rattle.arrow.specs.Arrow.{arrow_checks, arrow, glyph}
use Rattle.commands.specs.declared.Direction.{Direction}
use Rattle.commands.specs.declared.Direction.TheVariants.{Octant, Arrow, Glyph}
use Rattle.directions.specs.Directions.{indication_text, glyph_of, direction_text}

-- The answers.
unfoldable pub answers : List Direction → List (List ℕ)
unfolding tab conditions first_true octant first_failed digits_from entry_at arrow_table entry arrow_checks arrow glyph indication_text glyph_of direction_text
answers [] = []
answers (d ∷ l) = direction_text d ∷ answers l

-- What is expected, as texts.
unfoldable pub texts : List String → List (List ℕ)
texts [] = []
texts (s ∷ l) = bytes s ∷ texts l

-- An octant and none; a bay one pitch to the left and four up, seen from the display, and one to the right and one up; less than one pitch to the
-- left, which is here; fifteen pitches and what is left over; sixteen pitches; a pitch too large, and 13 before 14; the glyphs of here, of no arrow
-- and of a negative number.
abbrev pub Directions : Type 0
Directions =
    answers (Octant (negsuc 0) (pos 1) ∷ Octant (pos 0) (pos 0) ∷ Arrow (pos 100) (pos 200) (negsuc 349) (pos 1400) (pos 250)
    ∷ Arrow (negsuc 2) (pos 4) (negsuc 1) (pos 5) (pos 1)
    ∷ Arrow (pos 0) (pos 0) (negsuc 998) (pos 0) (pos 1000) ∷ Arrow (pos 0) (pos 0) (pos 15999) (negsuc 15998) (pos 1000)
    ∷ Arrow (pos 0) (pos 0) (pos 0) (pos 16000) (pos 1000) ∷ Arrow (pos 0) (pos 0) (pos 0) (pos 32000) (pos 1001)
    ∷ Glyph (pos 8) ∷ Glyph (pos 9) ∷ Glyph (negsuc 0) ∷ [])
    ≡ texts ("octant 3" ∷ "error" ∷ "arrow 2 n" ∷ "arrow 1 N" ∷ "arrow 8 ." ∷ "arrow 7 e" ∷ "refused 14"
    ∷ "refused 13" ∷ "glyph ." ∷ "glyph ?" ∷ "glyph ?" ∷ [])
