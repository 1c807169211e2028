-- `prune::prune` meets its contract. The invariant: what is left to sweep leads to the definition's result. The measure:
-- the Steiner points that are left.
use Rattle.prune.proofs.Sweep.{Sweeping}
use Rattle.prune.proofs.prune.Given as goal

abbrev pub invariant-loop-j : goal.invariant-loop-j
invariant-loop-j l = Sweeping l.initial.w.points l.w l.j

abbrev pub decreases-loop-j : goal.decreases-loop-j
decreases-loop-j l = l.w.points.nsteiner
