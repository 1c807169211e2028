-- The example holds: the definitions compute it.
use mathlib.Core.Path.{refl}
use Rattle.model.specs.Example.{example_file}
use Rattle.picture.specs.Examples.{picture_answer, example_picture, ExamplePicture}

pub example_picture_lem : ExamplePicture
unfolding picture_answer example_picture example_file
example_picture_lem = refl
