-- `directions::arrow_line` meets its contract: the word, the number, and the glyph behind a space.
use mathlib.Core.Path.{ap, ap₂}
use mathlib.Core.List.{[], ◌∷◌, ◌++◌}
use Prim.Native.Nat.{ℕ}
use native.Mathlib.Omega.{arith}
use Rattle.arrays.proofs.paste.Parts.{pasted_same, pasted_then}
use Rattle.model.specs.Listing.{field, decimal}
use Rattle.arrow.specs.Arrow.{glyph}
use Rattle.directions.specs.Directions.{arrow_word}
use Rattle.directions.proofs.arrow_line.Goals as goal

pub returns : goal.returns
returns c = let last = pasted_same (ap (λ (g : ℕ). g ∷ []) c.glyph-g.ensures) c.put_byte.ensures in
    pasted_same (ap₂ (λ (n m : ℕ). arrow_word ++ (field (decimal n) ++ field (glyph m ∷ []))) c.from-2.ensures c.from.ensures)
    (pasted_then c.put_items-a.ensures (omega arith)
    (pasted_then c.decimal_field-b.ensures.pasted (omega arith) (pasted_then c.put_byte-c.ensures (omega arith) last)))
