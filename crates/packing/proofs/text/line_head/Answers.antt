-- `packing::text::line_head` meets its contract: the number behind the word, and the colon behind it.
use native.Mathlib.Omega.{arith}
use Rattle.arrays.proofs.paste.Parts.{pasted_then}
use Rattle.packing.proofs.text.line_head.Goals as goal

pub returns-clause-pasted : goal.returns-clause-pasted
returns-clause-pasted c =
    let word = c.put_items-number.ensures in
    let number = c.decimal_field-reason.ensures in
    pasted_then word (omega (arith, word.next)) (pasted_then number.pasted (omega (arith, word.next, number.upper_bound)) c.put_items.ensures)
