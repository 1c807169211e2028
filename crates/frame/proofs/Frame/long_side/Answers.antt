-- `frame::Frame::long_side` meets its contract: the larger of two, twice.
use native.Mathlib.Omega.{arith}
use Rattle.frame.specs.Frame.{long_side}
use Rattle.frame.proofs.Frame.long_side.Goals as goal

pub returns-clause-value : goal.returns-clause-value
unfolding long_side
returns-clause-value c = omega arith
