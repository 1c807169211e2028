-- `regions::rows::locate` meets its contract. The invariant: the points passed are located.
use native.Mathlib.Omega.{arith}
use Rattle.regions.proofs.rows.Location.{point_more}
use Rattle.regions.proofs.rows.locate.Goals as goal

pub loop-j-preserved : goal.loop-j-preserved
loop-j-preserved c = point_more c.loop-j.invariant (omega arith) (omega arith) c.row_gaps.ensures c.rank.ensures
