-- `points::Points::empty` meets its contract, by computation.
use mathlib.Core.Path.{refl}
use Rattle.points.specs.Coded.{coded}
use Rattle.points.proofs.Points.empty.Goals as goal

pub returns : goal.returns
unfolding coded
returns c = refl
