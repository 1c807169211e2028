-- The examples of octants, by computation.
use mathlib.Core.Path.{refl}
use Rattle.octants.specs.OctantTable.{octants, Borders, star, NearestInOctants, LowerOfEquals}

pub borders : Borders
unfolding octants
borders = refl

pub nearest_in_octants : NearestInOctants
unfolding star
nearest_in_octants = refl

pub lower_of_equals : LowerOfEquals
unfolding star
lower_of_equals = refl
