-- `template::put_coordinate` meets its contract: the coordinate is read back from its bits.
use mathlib.Core.Path.{ap}
use Rattle.arrays.proofs.Signed.{read_is}
use Rattle.arrays.proofs.paste.Parts.{pasted_same}
use Rattle.model.specs.Listing.{signed_decimal}
use Rattle.template.proofs.put_coordinate.Goals as goal

pub returns : goal.returns
returns c = let coordinate = c.to_signed in
    record {
      pasted = pasted_same (ap signed_decimal (read_is (record { sfits = coordinate.type_inv }) coordinate.ensures)) c.signed.ensures.pasted;
      upper_bound = c.signed.ensures.upper_bound;
    }
