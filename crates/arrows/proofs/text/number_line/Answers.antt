-- `arrows::text::number_line` meets its contract: the number, and the line feed behind it.
use Rattle.std.proofs.Common.{arith}
use Rattle.arrays.proofs.paste.Parts.{pasted_then}
use Rattle.arrows.specs.Text.{number_line}
use Rattle.arrows.proofs.text.number_line.Goals as goal

pub returns-clause-pasted : goal.returns-clause-pasted
unfolding number_line
returns-clause-pasted c = rw c.from.ensures at (pasted_then c.decimal-next.ensures.pasted (omega arith) c.put_byte.ensures)
