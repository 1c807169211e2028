-- The example holds: the definitions compute it.
use mathlib.Core.Path.{refl}
use Rattle.template.specs.Examples.{text, ThreeSigns}

pub three_signs : ThreeSigns
unfolding text
three_signs = refl
