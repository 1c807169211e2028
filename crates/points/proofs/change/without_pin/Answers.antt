-- `points::change::without_pin` meets its contract: the point leaves the pins.
use Rattle.points.proofs.change.Joins.{without_pin_lem}
use Rattle.points.proofs.change.without_pin.Goals as goal

pub returns : goal.returns
returns c = without_pin_lem _ c.requires.arranged _ c.requires.t _ _ c.out.ensures c.out.auto.a
