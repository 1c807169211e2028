-- `drawing::put_head` meets its contract: the size, the symbols, and the ground.
use native.Mathlib.Omega.{arith}
use Rattle.arrays.proofs.paste.Parts.{pasted_then, pasted_same}
use Rattle.drawing.specs.Elements.{head_text}
use Rattle.drawing.proofs.put_head.Goals as goal

pub returns-clause-pasted : goal.returns-clause-pasted
unfolding head_text
returns-clause-pasted c =
    pasted_same (cc)
    (pasted_then c.fill-symbols.ensures.pasted (omega arith)
    (pasted_then c.put_items-ground.ensures (omega arith) c.fill.ensures.pasted))
