-- `regions::nearest::Points::nearest` meets its contract. The invariant: the array has the least rays of the points passed.
use Rattle.regions.proofs.nearest.Sides.{rows_none}
use Rattle.regions.proofs.nearest.Points.nearest.Goals as goal

pub loop-j-init : goal.loop-j-init
loop-j-init c = rows_none c.requires
