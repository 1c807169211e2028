-- `search::pick` meets its contract. The invariant: from the best so far, the rows left give what the whole column gives.
use Rattle.search.proofs.Steps.{InColumn}
use Rattle.search.proofs.pick.Given as goal

abbrev pub invariant-loop-row : goal.invariant-loop-row
invariant-loop-row l = InColumn l.table l.x l.points.rows.now l.least l.initial.best l.best l.row
