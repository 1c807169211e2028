-- `regions::nearest::Points::nearest` meets its contract. The invariant: the array has the least rays of the points passed.
use lib.ListN.{length}
use Rattle.regions.specs.Nearest.{AtRows}
use Rattle.regions.proofs.nearest.Points.nearest.Given as goal

abbrev pub invariant-loop-j : goal.invariant-loop-j
invariant-loop-j l = AtRows l.self.xs.now l.self.gaps.now l.self.ranks.now l.x l.j (length l.self.rows.now) l.least
