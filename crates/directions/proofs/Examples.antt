-- The examples hold: the definitions compute them.
use mathlib.Core.Path.{refl}
use Rattle.directions.specs.Examples.{answers, texts, Directions}

pub directions : Directions
unfolding answers texts
directions = refl
