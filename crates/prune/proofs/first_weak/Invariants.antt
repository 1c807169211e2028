-- `prune::first_weak` meets its contract. The invariant: the points passed have three edges or more.
use Rattle.prune.proofs.Weak.{Strong}
use Rattle.prune.proofs.first_weak.Given as goal

abbrev pub invariant-loop-j : goal.invariant-loop-j
invariant-loop-j l = Strong l.codes l.keys l.steiner l.j
