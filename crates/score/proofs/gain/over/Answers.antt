-- `score::gain::over` meets its contract: the definition opened, its parts are what the calls return.
use native.Mathlib.Omega.{arith}
use Rattle.score.specs.Gain.{over}
use Rattle.score.proofs.gain.over.Goals as goal

pub returns : goal.returns
unfolding over
returns c = (cc, omega arith)
