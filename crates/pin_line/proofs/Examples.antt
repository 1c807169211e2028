-- The examples hold: the definitions compute them.
use mathlib.Core.Path.{refl}
use Rattle.pin_line.specs.Examples.{pin_lines, long_lines, Pins, PassedOver, Errors, LongestLine, TooLong}

pub pins : Pins
unfolding pin_lines
pins = refl

pub passed_over : PassedOver
unfolding pin_lines
passed_over = refl

pub errors : Errors
unfolding pin_lines
errors = refl

pub longest-line : LongestLine
unfolding long_lines
longest-line = refl

pub too_long_lem : TooLong
unfolding long_lines
too_long_lem = refl
