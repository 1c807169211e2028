-- `replies::ends_fields` meets its contract: four coordinates, each behind the one before.
use native.Mathlib.Omega.{arith}
use Rattle.arrays.proofs.paste.Parts.{pasted_then}
use Rattle.ascii.proofs.Signs.{field_again}
use Rattle.replies.proofs.ends_fields.Goals as goal

pub returns-clause-pasted : goal.returns-clause-pasted
returns-clause-pasted c =
    pasted_then (field_again _ c.ranges.x c.signed_field-a.ensures.pasted) (omega arith)
    (pasted_then (field_again _ c.ranges.y c.signed_field-b.ensures.pasted) (omega arith)
    (pasted_then (field_again _ c.ranges.u c.signed_field-c.ensures.pasted) (omega arith)
    (field_again _ c.ranges.v c.signed_field.ensures.pasted)))
