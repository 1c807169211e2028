-- `plane::to_signed` meets its contract: 32 bits hold the difference.
use mathlib.Core.Path.{◌≡◌, sym, ap, ◌∙◌, subst}
use native.Mathlib.Omega.{arith}
use lib.IntN.{ℤ, pos, sub_ℕ, ◌-ℤ◌}
use mir.Syntax.{w32}
use mir.Val.{SFits}
use Rattle.arrays.proofs.Signed.{read, read_is}
use Rattle.plane.specs.Coordinate.{coordinate}
use Rattle.plane.proofs.Signed.{lowered, lowered_fits}
use Rattle.plane.proofs.to_signed.Goals as goal

pub returns : goal.returns
unfolding coordinate
returns c =
    let known : read c.from.result ≡ pos c.args.u = read_is (subst (SFits w32) (sym c.from.ensures) (record { sfits = omega arith })) c.from.ensures in
    let lower : read c.from.result -ℤ pos 30000 ≡ sub_ℕ c.args.u 30000 = ap (λ (z : ℤ). z -ℤ pos 30000) known ∙ lowered c.args.u 30000 in
    read_is (subst (SFits w32) (sym lower) (lowered_fits c.args.u 30000 (omega arith) (omega arith))) lower
