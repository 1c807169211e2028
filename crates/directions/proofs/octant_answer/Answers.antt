-- `directions::octant_answer` meets its contract: `error` where there is no octant, else its number.
use mathlib.Core.Path.{ap, ◌∙◌}
use mathlib.Core.List.{List}
use Prim.Native.Nat.{ℕ}
use Rattle.arrays.proofs.paste.Parts.{pasted_same}
use Rattle.ascii.specs.Text.{fitting}
use Rattle.ascii.specs.Line.{number_text}
use Rattle.directions.specs.Directions.{octant_word}
use Rattle.directions.proofs.Octant.{octant_none, octant_some}
use Rattle.directions.proofs.octant_answer.Goals as goal

pub returns-then-k-eq-NO_OCTANT : goal.returns-then-k-eq-NO_OCTANT
returns-then-k-eq-NO_OCTANT c = let e = octant_none _ _ _ c.octant-k.ensures c.ranges.x c.ranges.y c.if-k-eq-NO_OCTANT.true in
    pasted_same (ap (λ (t : List ℕ). fitting 128 c.args.out.now t) e) c.error_line.ensures

pub returns : goal.returns
returns c = let e = ap (number_text octant_word) c.from.ensures ∙ octant_some _ _ _ c.octant-k.ensures c.ranges.x c.ranges.y c.if-k-eq-NO_OCTANT.false in
    pasted_same (ap (λ (t : List ℕ). fitting 128 c.args.out.now t) e) c.octant_line.ensures
