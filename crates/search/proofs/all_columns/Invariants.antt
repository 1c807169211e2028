-- `search::all_columns` meets its contract. The invariant: from the best so far, the columns left give what all columns give.
use Rattle.search.proofs.Steps.{InColumns}
use Rattle.search.proofs.all_columns.Given as goal

abbrev pub invariant-loop-x : goal.invariant-loop-x
invariant-loop-x l =
    InColumns l.points.xs.now l.table l.points.gaps.now l.points.ranks.now l.columns l.points.rows.now l.initial.best l.best l.x-index
