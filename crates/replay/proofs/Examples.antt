-- The example of calls in bytes, by computation.
use mathlib.Core.Path.{refl}
use Rattle.replay.specs.Examples.{calls, CallsInBytes}

pub calls_in_bytes : CallsInBytes
unfolding calls
calls_in_bytes = refl
