-- The example holds: the definitions compute it.
use mathlib.Core.Path.{refl}
use Rattle.arrows.specs.Examples.{lines, TwoLines}

pub two_lines : TwoLines
unfolding lines
two_lines = refl
