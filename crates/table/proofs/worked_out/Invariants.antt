-- `table::worked_out` meets its contract. The invariant: the first i places hold the first i entries of the table.
use mathlib.Core.Path.{◌≡◌}
use lib.ListN.{length, take}
use Rattle.arrays.specs.Tab.{tab}
use Rattle.table.specs.Table.{entry_at, arrow_count}
use Rattle.table.proofs.worked_out.Given as goal

abbrev pub invariant-loop-i : goal.invariant-loop-i
invariant-loop-i l = (length l.numbers ≡ arrow_count) × (take l.i l.numbers ≡ tab entry_at l.i)
