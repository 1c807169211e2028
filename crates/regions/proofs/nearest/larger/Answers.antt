-- `regions::nearest::larger` meets its contract, by the two outcomes of its test.
use mathlib.Core.Logic.{dite}
use native.Mathlib.Decide.{dec_lt}
use native.Mathlib.Omega.{arith}
use borrow.Author.Tests.{lt-ltb, le-ltb}
use Rattle.regions.proofs.nearest.larger.Goals as goal

pub returns : goal.returns
returns c = let a = c.args.a in
    let b = c.args.b in
    let same = c.less.ensures in (
      dite (dec_lt a b)
          (λ h. omega (arith, simp (same, lt-ltb a b h) at c.choose.ensures.0))
          (λ h. omega (arith, simp (same, le-ltb a b (omega arith)) at c.choose.ensures.0)),
      omega arith,
    )
