-- `commands::with_three` meets its contract: the name, and then the kind, whose numbers are read back from their bits.
use mathlib.Core.Path.{◌∙◌}
use native.Mathlib.Omega.{arith}
use Rattle.arrays.proofs.Signed.{read-three}
use Rattle.commands.specs.Commands.{with_kind}
use Rattle.commands.proofs.Names.{three-add}
use Rattle.commands.proofs.Tests.{compared}
use Rattle.commands.proofs.with_three.Goals as goal

pub returns-in-add : goal.returns-in-add
returns-in-add c = let fits = c.ranges in
    c.with_kind.ensures ∙ read-three with_kind _ _ _ fits.x fits.y fits.kind ∙ three-add _ _ _ _ (grind (arith, compared))
