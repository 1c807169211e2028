-- `replies::edge_line` meets its contract: the word, the fields of the two ends, then the length, each behind the one before.
use native.Mathlib.Omega.{arith}
use Rattle.arrays.proofs.paste.Parts.{pasted_same, pasted_then}
use Rattle.arrays.proofs.Signed.{read-four}
use Rattle.replies.specs.Replies.{ends_text}
use Rattle.replies.proofs.edge_line.Goals as goal

pub returns : goal.returns
returns c = pasted_then c.put_items-a.ensures (omega arith)
    (pasted_then (pasted_same (read-four ends_text _ _ _ _ c.ranges.x c.ranges.y c.ranges.u c.ranges.v)
    c.ends_fields-b.ensures.pasted) (omega arith)
    c.decimal_field.ensures.pasted)
