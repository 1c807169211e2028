-- `rows::numbers_line` meets its contract: the word, three fields and the line feed, each behind the one before.
use native.Mathlib.Omega.{arith}
use Rattle.arrays.proofs.paste.Parts.{pasted_then}
use Rattle.rows.proofs.numbers_line.Goals as goal

pub returns-clause-pasted : goal.returns-clause-pasted
returns-clause-pasted c =
    pasted_then c.put_items-numbers.ensures (omega arith)
    (pasted_then c.number_fields-end.ensures.pasted (omega arith) c.put_byte.ensures)
