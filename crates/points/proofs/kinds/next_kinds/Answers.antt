-- `points::kinds::next_kinds` meets its contract: the kinds put over zeros.
use Rattle.points.proofs.kinds.Front.{zeros_behind}
use Rattle.points.proofs.kinds.next_kinds.Goals as goal

pub returns : goal.returns
returns g c = zeros_behind g.row.N c.follow.ensures
