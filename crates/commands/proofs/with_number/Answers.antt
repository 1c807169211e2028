-- `commands::with_number` meets its contract: a name that is neither of the two, and a number that is read back from its bits.
use mathlib.Core.Path.{◌≡◌, ◌∙◌}
use mathlib.Core.Bool.{false}
use native.Mathlib.Omega.{arith}
use Rattle.arrays.specs.Same.{same_list}
use Rattle.arrays.specs.Text.{bytes}
use Rattle.arrays.proofs.Signed.{read_one}
use Rattle.commands.specs.Commands.{with_natural}
use Rattle.commands.proofs.Names.{number_natural}
use Rattle.commands.proofs.Tests.{compared}
use Rattle.commands.proofs.with_number.Goals as goal

pub returns-in_default : goal.returns-in_default
returns-in_default c =
    let a : same_list c.args.name.now (bytes "glyph") ≡ false = grind (arith, compared) in
    let b : same_list c.args.name.now (bytes "column") ≡ false = grind (arith, compared) in
    c.with_natural.ensures ∙ read_one (with_natural c.args.name.now) c.ranges.i ∙ number_natural _ _ a b
