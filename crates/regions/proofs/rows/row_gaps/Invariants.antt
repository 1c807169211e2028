-- `regions::rows::row_gaps` meets its contract. The invariant: the distances to the rows passed stand in their places.
use Rattle.regions.specs.Rows.{RowGaps}
use Rattle.regions.proofs.rows.row_gaps.Given as goal

abbrev pub invariant-loop-r : goal.invariant-loop-r
invariant-loop-r l = RowGaps l.rows l.r l.y l.start l.initial.gaps l.gaps
