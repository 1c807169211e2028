-- `search::pick` meets its contract. The invariant: from the best so far, the rows left give what the whole column gives.
use mathlib.Core.Path.{refl}
use native.Mathlib.Omega.{arith}
use Rattle.search.proofs.Steps.{column_more, column_end}
use Rattle.search.proofs.pick.Goals as goal

pub loop-row-init : goal.loop-row-init
loop-row-init c = record { rest = λ ps s. refl }

pub loop-row-preserved : goal.loop-row-preserved
loop-row-preserved c = column_more c.loop-row.invariant (omega arith) c.gain_at.ensures c.better-best.ensures

pub returns : goal.returns
returns c = column_end c.loop-row.invariant (omega arith)
