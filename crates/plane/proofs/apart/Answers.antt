-- `plane::apart` meets its contract: how far apart the stored coordinates are is the distance along the axis.
use mathlib.Core.Path.{◌∙◌}
use Rattle.plane.proofs.Stored.{gap-stored}
use Rattle.plane.proofs.apart.Goals as goal

pub returns : goal.returns
returns c = c.abs_diff.ensures ∙ gap-stored c.args.a c.args.b
