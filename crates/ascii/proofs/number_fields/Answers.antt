-- `ascii::number_fields` meets its contract: three fields, each behind the one before.
use native.Mathlib.Omega.{arith}
use Rattle.arrays.proofs.paste.Parts.{pasted_then}
use Rattle.ascii.proofs.number_fields.Goals as goal

pub returns-clause-pasted : goal.returns-clause-pasted
returns-clause-pasted c =
    pasted_then c.decimal_field-second.ensures.pasted (omega arith)
    (pasted_then c.decimal_field-third.ensures.pasted (omega arith) c.decimal_field.ensures.pasted)
