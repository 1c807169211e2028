-- The examples hold: the definitions compute them.
use mathlib.Core.Path.{refl}
use Rattle.packing.specs.Examples.{printed_for, Files, Faults}

pub files : Files
unfolding printed_for
files = refl

pub faults : Faults
unfolding printed_for
faults = refl
