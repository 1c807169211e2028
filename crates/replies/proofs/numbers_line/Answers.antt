-- `replies::numbers_line` meets its contract: the word, then the three fields behind it.
use native.Mathlib.Omega.{arith}
use Rattle.arrays.proofs.paste.Parts.{pasted_then}
use Rattle.replies.proofs.numbers_line.Goals as goal

pub returns : goal.returns
returns c = pasted_then c.put_items-next.ensures (omega arith) c.number_fields.ensures.pasted
