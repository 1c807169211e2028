-- `points::change::with_steiner` meets its contract: the point joins the Steiner points.
use Rattle.points.proofs.change.Joins.{with_steiner_lem}
use Rattle.points.proofs.change.with_steiner.Goals as goal

pub returns : goal.returns
returns c = with_steiner_lem _ c.requires.arranged _ c.requires.t _ _ c.requires.nsteiner_bound c.requires.fact c.put.ensures c.put.auto.a
