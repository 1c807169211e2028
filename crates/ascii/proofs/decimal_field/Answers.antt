-- `ascii::decimal_field` meets its contract: a blank, then the digits behind it.
use native.Mathlib.Omega.{arith}
use Rattle.arrays.proofs.paste.Parts.{pasted_then}
use Rattle.ascii.proofs.decimal_field.Goals as goal

pub returns-clause-pasted : goal.returns-clause-pasted
returns-clause-pasted c = pasted_then c.put_byte-next.ensures (omega arith) c.decimal.ensures.pasted
