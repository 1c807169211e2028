-- `plane::distance` meets its contract: the distances along the two axes, which `apart` gives, make up the distance.
use borrow.Author.Rules.{rules}
use Rattle.plane.specs.Point.{dist}
use Rattle.plane.proofs.distance.Goals as goal

pub returns : goal.returns
unfolding dist
returns c = search rules
