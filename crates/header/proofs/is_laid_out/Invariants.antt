-- `header::is_laid_out` meets its contract. The invariant: the sections passed follow one another, and the others decide.
use Rattle.header.proofs.Checks.{Passed}
use Rattle.header.proofs.is_laid_out.Given as goal

abbrev pub invariant-loop-k : goal.invariant-loop-k
invariant-loop-k l = Passed l.b l.n l.at l.k
