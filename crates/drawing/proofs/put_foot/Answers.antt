-- `drawing::put_foot` meets its contract: the legend's place, the legend, and the caption.
use native.Mathlib.Omega.{arith}
use Rattle.arrays.proofs.paste.Parts.{pasted_then, pasted_same}
use Rattle.drawing.specs.Elements.{foot_text}
use Rattle.drawing.proofs.put_foot.Goals as goal

pub returns-clause-pasted : goal.returns-clause-pasted
unfolding foot_text
returns-clause-pasted c =
    pasted_same (cc)
    (pasted_then c.fill-names.ensures.pasted (omega arith)
    (pasted_then c.put_items-caption.ensures (omega arith) c.fill.ensures.pasted))
