-- `directions::direction_line` meets its contract: in each arm the question is told, and its numbers are read back from their bits.
use mathlib.Core.Path.{◌≡◌, sym, ap, ◌∙◌}
use mathlib.Core.List.{List}
use Prim.Native.Nat.{ℕ}
use Rattle.arrays.specs.Paste.{Pasted}
use Rattle.arrays.proofs.Signed.{read_one, read_two}
use Rattle.arrays.proofs.paste.Parts.{pasted_same}
use Rattle.ascii.specs.Text.{fitting}
use Rattle.arrow.proofs.Answers.{read-arrow}
use Rattle.directions.specs.Directions.{indication_text, glyph_text, octant_text, glyph_of, direction_text}
use borrow.Author.Rules.{rules}
use Rattle.directions.proofs.direction_line.Goals as goal

-- The same text in the same room.
in-room : (out : List ℕ) {s t new : List ℕ} {r : ℕ} → s ≡ t → Pasted (fitting 128 out s) out new 0 r → Pasted (fitting 128 out t) out new 0 r
in-room out e = pasted_same (ap (λ (z : List ℕ). fitting 128 out z) e)

pub returns-in-Octant : goal.returns-in-Octant
unfolding direction_text
returns-in-Octant c = in-room _ (read_two octant_text _ _ (search rules) (search rules)
    ∙ ap direction_text (sym c.in-Octant.is)) c.octant_answer.ensures

pub returns-in-Arrow : goal.returns-in-Arrow
unfolding direction_text
returns-in-Arrow c = in-room _ (ap indication_text (c.arrow.ensures ∙ read-arrow _ _ _ _ _ (search rules) (search rules)
    (search rules) (search rules) (search rules))
    ∙ ap direction_text (sym c.in-Arrow.is)) c.indication_line.ensures

pub returns-in-Glyph : goal.returns-in-Glyph
unfolding direction_text
returns-in-Glyph c = in-room _ (ap glyph_text (c.glyph_of.ensures ∙ read_one glyph_of (search rules))
    ∙ ap direction_text (sym c.in-Glyph.is)) c.glyph_line.ensures
