-- `edges::distance_of` meets its contract: the coordinates are those of the two points.
use mathlib.Core.Path.{◌∙◌}
use Rattle.plane.specs.Point.{dist}
use Rattle.plane.specs.Stored.{point_at}
use Rattle.edges.proofs.distance_of.Goals as goal

pub returns : goal.returns
returns c =
    c.from.ensures ∙ c.distance.ensures.value
    ∙ (λ i. dist (point_at (c.x_of.ensures i) (c.y_of.ensures i)) (point_at (c.x_of-2.ensures i) (c.y_of-2.ensures i)))
