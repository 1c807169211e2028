-- `plane::from_bytes` meets its contract: a number of 16 bits is that difference.
use mathlib.Core.Path.{◌≡◌, ◌∙◌}
use native.Mathlib.Omega.{arith}
use mir.Syntax.{w16}
use mir.Val.{SFits}
use mir.ValLaws.{to_z-of_z}
use Rattle.arrays.proofs.Signed.{read_is}
use Rattle.plane.specs.Coordinate.{signed16}
use Rattle.plane.proofs.Signed.{short_lowered}
use Rattle.plane.proofs.from_bytes.Goals as goal

pub returns : goal.returns
unfolding signed16
returns c =
    let fits : SFits w16 c.from_le_bytes.result = record { sfits = c.from_le_bytes.type_inv } in
    let wide : c.from.result ≡ c.from_le_bytes.result = c.from.ensures ∙ to_z-of_z w16 c.from_le_bytes.result fits in
    read_is (record { sfits = c.from.type_inv }) (wide ∙ c.from_le_bytes.ensures ∙ short_lowered c.args.low c.args.high (omega arith) (omega arith))
