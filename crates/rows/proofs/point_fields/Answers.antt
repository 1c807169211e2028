-- `rows::point_fields` meets its contract: its two coordinates, each a field.
use native.Mathlib.Omega.{arith}
use Rattle.arrays.proofs.paste.Parts.{pasted_then, pasted_same}
use Rattle.rows.proofs.point_fields.Goals as goal

pub returns-clause-pasted : goal.returns-clause-pasted
returns-clause-pasted c =
    pasted_same (cc) (pasted_then c.coordinate_field-next.ensures.pasted (omega arith) c.coordinate_field.ensures.pasted)
