-- `commands::with_places` meets its contract: the last case, in which 16 bits do not hold the first number.
use mathlib.Core.Path.{sym, subst}
use mir.Syntax.{w16}
use mir.Val.{SFits}
use lib.IntN.{ℤ}
use Rattle.arrays.proofs.Signed.{read_one}
use Rattle.commands.proofs.Arguments.{first_beyond}
use Rattle.commands.proofs.with_places.Goals as goal

pub returns-in_default-4 : goal.returns-in_default-4
returns-in_default-4 c =
    let none = rw c.in_default.is-0 at c.try_from.ensures in
    first_beyond c.args.x _ _ _ _ (λ h. none (subst (SFits w16) (sym (read_one (λ (z : ℤ). z) c.ranges.x)) h))
