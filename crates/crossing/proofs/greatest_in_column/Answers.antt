-- `crossing::greatest_in_column` meets its contract: from no gain, the search over the crossings of the column finds the greatest, and no gain is large.
use Rattle.score.proofs.Geometry.{column-given}
use Rattle.crossing.proofs.Candidates.{found_fits}
use Rattle.crossing.proofs.greatest_in_column.Goals as goal

pub invariant_of-points : goal.invariant_of-points
invariant_of-points c = record { given = column-given c.prepare.ensures }

pub returns-clause-gain_le_most_gain : goal.returns-clause-gain_le_most_gain
returns-clause-gain_le_most_gain c =
    found_fits c.requires.0 (λ i. (c.type_inv.xs i).fits) (λ i. (c.type_inv.ys i).fits) _ (c.column.ensures _ c.prepare.ensures)
