-- `search::column` meets its contract: the least rays at each row, and the best by their gains.
use native.Mathlib.Omega.{arith}
use Rattle.score.proofs.Geometry.{spared_is}
use Rattle.search.proofs.column.Goals as goal

pub returns : goal.returns
returns c ys p = c.pick.ensures _ (λ r h. spared_is p h (omega arith) c.nearest.ensures)
