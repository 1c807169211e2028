-- `regions::nearest::less` meets its contract: numbers below 2^31 are the same read as signed.
use native.Mathlib.Omega.{arith}
use borrow.Author.Tests.{lt-ltb}
use Rattle.regions.proofs.nearest.less.Goals as goal

pub returns : goal.returns
returns c = rw (lt-ltb c.args.a 2147483648 (omega arith), lt-ltb c.args.b 2147483648 (omega arith))
