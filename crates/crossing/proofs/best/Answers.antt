-- `crossing::best` meets its contract: with no point there is no crossing, and else the search finds the best.
use native.Mathlib.Omega.{arith}
use Rattle.std.proofs.lemmas.Bool.Decides.{nat_tests}
use Rattle.crossing.proofs.Candidates.{none_best}
use Rattle.crossing.proofs.best.Goals as goal

pub returns-then-is_empty : goal.returns-then-is_empty
returns-then-is_empty c = none_best _ _ _ (grind (arith, nat_tests))
