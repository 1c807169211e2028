-- The arrow that a display shows for a bay, and the glyph of an arrow (SPEC 3.4, 3.5, 8.5).
use Rattle.std.specs.Prelude.{Bool, ◌&&◌, List, [], ◌∷◌, ℕ, ℤ, pos, ◌-ℤ◌, get_or}
use Rattle.std.proofs.Math.Option.{Option, none, some}
use Rattle.std.specs.Int.Signed.{le_z, quot_z}
use Rattle.arrays.specs.Text.{bytes, byte}
use Rattle.plane.specs.Point.{Point}
use Rattle.model.specs.Refusal.{Check, check, first_failed}
use Rattle.std.specs.Prelude.{Result, Ok, Err}
use Rattle.table.specs.Table.{in_table, entry}

-- A pitch that is taken: 1 to 1,000.
abbrev pub is_pitch : ℤ → Bool
is_pitch p = le_z (pos 1) p && le_z p (pos 1000)

-- How many whole pitches it is from one coordinate to another: the difference divided by the pitch, toward zero.
abbrev pub pitches : ℤ → ℤ → ℤ → ℤ
pitches from to pitch = quot_z (to -ℤ from) pitch

-- The tests in their order (SPEC 8.5), each with the number of its refusal.
unfoldable pub arrow_checks : Point → Point → ℤ → List Check
arrow_checks display bay pitch =
    check 13 (λ _. is_pitch pitch)
    ∷ check 14 (λ _. in_table (pitches display.x bay.x pitch) && in_table (pitches display.y bay.y pitch)) ∷ []

-- The number of a refusal; else an arrow.
abbrev pub unless : Option ℕ → ℕ → Result ℕ ℕ
unless none k = Ok k
unless (some n) k = Err n

-- The arrow (SPEC 3.4): the entry of the table for the pitches in x and in y.
unfoldable pub arrow : Point → Point → ℤ → Result ℕ ℕ
arrow display bay pitch =
    unless (first_failed (arrow_checks display bay pitch))
    (entry (pitches display.x bay.x pitch) (pitches display.y bay.y pitch))

-- The glyphs of 0 to 8.
abbrev pub glyphs : List ℕ
glyphs = bytes "ENnWwSse."

-- The glyph of a number (SPEC 3.5): 0 to 8 have those listed, any other a question mark.
unfoldable pub glyph : ℕ → ℕ
glyph n = get_or glyphs n (byte "?")
