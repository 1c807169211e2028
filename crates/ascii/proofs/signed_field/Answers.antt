-- `ascii::signed_field` meets its contract: a blank, then the sign and the digits behind it.
use native.Mathlib.Omega.{arith}
use Rattle.arrays.proofs.paste.Parts.{pasted_then, pasted_same}
use Rattle.model.specs.Listing.{signed_decimal}
use Rattle.arrays.proofs.Signed.{read_one}
use Rattle.ascii.proofs.signed_field.Goals as goal

pub returns-clause-pasted : goal.returns-clause-pasted
returns-clause-pasted c =
    pasted_then c.put_byte-next.ensures (omega arith) (pasted_same (read_one signed_decimal c.ranges.z) c.signed.ensures.pasted)
