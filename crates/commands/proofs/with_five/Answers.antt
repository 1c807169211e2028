-- `commands::with_five` meets its contract: the name, and then the places, whose numbers are read back from their bits.
use mathlib.Core.Path.{◌∙◌}
use native.Mathlib.Omega.{arith}
use Rattle.arrays.proofs.Signed.{read_five}
use Rattle.commands.specs.Commands.{with_places}
use Rattle.commands.proofs.Names.{five_arrow}
use Rattle.commands.proofs.Tests.{compared}
use Rattle.commands.proofs.with_five.Goals as goal

pub returns-in-arrow : goal.returns-in-arrow
returns-in-arrow c = let fits = c.ranges in
    c.with_places.ensures ∙ read_five with_places _ _ _ _ _ fits.x fits.y fits.u fits.v fits.pitch
    ∙ five_arrow _ _ _ _ _ _ (grind (arith, compared))
