-- `points::change::without_steiner` meets its contract: the point leaves the Steiner points.
use Rattle.points.proofs.change.Joins.{without-steiner}
use Rattle.points.proofs.change.without_steiner.Goals as goal

pub returns : goal.returns
returns c = without-steiner _ c.requires.arranged _ c.requires.t _ _ c.out.ensures c.out.auto.a
