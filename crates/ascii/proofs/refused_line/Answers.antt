-- `ascii::refused_line` meets its contract: the word, the number and the line feed, each behind the one before.
use native.Mathlib.Omega.{arith}
use Rattle.arrays.proofs.paste.Parts.{pasted_then}
use Rattle.ascii.proofs.refused_line.Goals as goal

pub returns : goal.returns
returns c = pasted_then c.put_items-a.ensures (omega arith)
    (pasted_then c.decimal_field-b.ensures.pasted (omega arith) c.put_byte.ensures)
