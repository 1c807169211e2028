-- The examples hold: the definitions compute them.
use mathlib.Core.Path.{refl}
use Rattle.frame.specs.Examples.{place_in, ThreePlaces, OnePlace}

pub three-places : ThreePlaces
unfolding place_in
three-places = refl

pub one_place : OnePlace
unfolding place_in
one_place = refl
