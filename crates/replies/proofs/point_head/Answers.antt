-- `replies::point_head` meets its contract: the word, two coordinates and the second word, each behind the one before.
use native.Mathlib.Omega.{arith}
use Rattle.arrays.proofs.paste.Parts.{pasted_then}
use Rattle.ascii.proofs.Signs.{field_again}
use Rattle.replies.proofs.point_head.Goals as goal

pub returns-clause-pasted : goal.returns-clause-pasted
returns-clause-pasted c =
    pasted_then c.put_items-a.ensures (omega arith)
    (pasted_then (field_again _ c.ranges.x c.signed_field-b.ensures.pasted) (omega arith)
    (pasted_then (field_again _ c.ranges.y c.signed_field-c.ensures.pasted) (omega arith) c.put_items.ensures))
