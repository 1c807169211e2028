-- The rows on columns, each by computation.
use mathlib.Core.Path.{refl}
use Rattle.arrays.specs.Set.{Each}
use Rattle.columns.specs.Table.{Holds, worked_out, column_table}

pub rows_hold : Each Holds column_table
unfolding worked_out column_table
rows_hold = (refl, (refl, (refl, (refl, (refl, (refl, (refl, (refl, (refl, (refl, (refl, (refl, (refl, (refl, (refl, tt)))))))))))))))
