-- `table::constant` meets its contract: the constant passes the test over the whole table, which is worked out here.
use Rattle.arrays.specs.Tab.{tab}
use Rattle.arrays.proofs.Alike.{same_eq}
use Rattle.octants.specs.Octant.{conditions, first_true, octant}
use Rattle.table.specs.Table.{entry_at, arrow_table}
use Rattle.table.proofs.constant.Goals as goal

pub returns : goal.returns
unfolding tab conditions first_true octant entry_at arrow_table
returns c = same_eq _ arrow_table tt
