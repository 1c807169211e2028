-- `plane::word_of` meets its contract: the 16 bits of a stored coordinate are it less 30,000, round at 65,536.
use native.Mathlib.Omega.{arith}
use Rattle.plane.proofs.Stored.{word_stored}
use Rattle.plane.proofs.word_of.Goals as goal

pub returns : goal.returns
returns c = omega (arith, word_stored c.args.u)
