-- `columns::saving_of` meets its contract: the saving is that difference, read back as it is.
use mathlib.Core.Path.{◌∙◌}
use mir.Syntax.{w32}
use mir.ValLaws.{to_z-of_z}
use Rattle.columns.proofs.saving_of.Goals as goal

pub returns : goal.returns
returns c = to_z-of_z w32 _ (record { sfits = c.difference.type_inv }) ∙ c.difference.ensures
