-- `points::kinds::in_front` meets its contract: the kinds put over zeros.
use Rattle.points.proofs.kinds.Front.{zeros_behind}
use Rattle.points.proofs.kinds.in_front.Goals as goal

pub returns : goal.returns
returns c = zeros_behind 64 c.put_items.ensures
