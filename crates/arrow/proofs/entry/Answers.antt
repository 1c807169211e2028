-- `arrow::entry` meets its contract: the constant is the table, and each difference has its place in a row of it.
use mathlib.Core.Path.{◌∙◌}
use Rattle.arrays.proofs.Signed.{read_one}
use Rattle.table.specs.Table.{offset}
use Rattle.table.proofs.Entries.{entry_is}
use Rattle.arrow.proofs.entry.Goals as goal

pub returns : goal.returns
returns c = entry_is _ c.constant-table.ensures _ _ _ _ (c.offset.ensures.value ∙ read_one offset c.ranges.dy)
    (c.offset-2.ensures.value ∙ read_one offset c.ranges.dx)
