-- `rows::run_line` meets its contract: the word, the fields of the two ends, the length and the line feed, each behind the one before.
use native.Mathlib.Omega.{arith}
use Rattle.arrays.proofs.paste.Parts.{pasted_then}
use Rattle.rows.proofs.run_line.Goals as goal

pub returns-clause-pasted : goal.returns-clause-pasted
returns-clause-pasted c =
    pasted_then c.put_items-n.ensures (omega arith)
    (pasted_then c.point_fields-p.ensures.pasted (omega arith)
    (pasted_then c.point_fields-q.ensures.pasted (omega arith)
    (pasted_then c.decimal_field-r.ensures.pasted (omega arith) c.put_byte.ensures)))
