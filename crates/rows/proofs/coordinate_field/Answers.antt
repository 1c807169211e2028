-- `rows::coordinate_field` meets its contract: a coordinate has at most five digits.
use Rattle.ascii.proofs.Signs.{coordinate-put}
use Rattle.rows.proofs.coordinate_field.Goals as goal

pub returns-clause-upper_bound : goal.returns-clause-upper_bound
returns-clause-upper_bound c =
    (coordinate-put _ _ _ _ _ _ (record { sfits = c.to_signed.type_inv }) c.to_signed.ensures c.signed_field.ensures.pasted c.ranges.u.fits).1
