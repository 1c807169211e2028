-- `search::all_columns` meets its contract. The invariant: from the best so far, the columns left give what all columns give.
use mathlib.Core.Path.{refl}
use native.Mathlib.Omega.{arith}
use Rattle.search.proofs.Steps.{columns_more, columns_end}
use Rattle.search.proofs.all_columns.Goals as goal

pub loop-x-init : goal.loop-x-init
loop-x-init c = record { rest = λ ys p. refl }

pub loop-x-preserved : goal.loop-x-preserved
loop-x-preserved c = columns_more c.loop-x.invariant (omega arith) c.column-best.ensures

pub returns : goal.returns
returns c = columns_end c.loop-x.invariant (omega arith)
