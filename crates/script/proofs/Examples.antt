-- The examples hold: the definitions compute them.
use mathlib.Core.Path.{refl}
use Rattle.script.specs.Examples.{commands, Taken, Refused, files, Files}

pub taken : Taken
unfolding commands
taken = refl

pub refused : Refused
unfolding commands
refused = refl

pub files-read : Files
unfolding files
files-read = refl
