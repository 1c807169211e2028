-- `points::change::with_pin` meets its contract: the point joins the pins and leaves the Steiner points.
use Rattle.points.proofs.change.Joins.{with_pin_lem}
use Rattle.points.proofs.change.with_pin.Goals as goal

pub returns : goal.returns
returns c = with_pin_lem _ c.requires.arranged _ c.requires.t _ _ _ _ c.requires.npins_lt_max_pins c.put.ensures c.put.auto.a c.out.ensures
    c.out.auto.a
