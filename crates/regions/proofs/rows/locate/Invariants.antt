-- `regions::rows::locate` meets its contract. The invariant: the points passed are located.
use Rattle.regions.specs.Rows.{Located}
use lib.ListN.{length}
use Rattle.regions.proofs.rows.locate.Given as goal

abbrev pub invariant-loop-j : goal.invariant-loop-j
invariant-loop-j l = Located l.ys l.j l.rows (length l.rows) l.gaps l.ranks
