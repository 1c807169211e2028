-- The table of arrows (SPEC 3.3): the octants of all small differences as one list.
use Rattle.std.specs.Prelude.{Bool, List, ℕ, ◌+◌, ◌*◌, ◌/◌, ◌%◌, leb, ℤ, pos, nat_abs, ◌+ℤ◌, get_or}
use Rattle.std.proofs.Math.IntN.{sub_ℕ}
use Rattle.arrays.specs.Tab.{tab}
use Rattle.octants.specs.Octant.{octant}

-- The largest difference in the table, and without its sign the smallest; how many entries a row has, which are those of one dy, and
-- how many the table has.
abbrev pub table_limit : ℕ
table_limit = 15

abbrev pub row_length : ℕ
row_length = 31

abbrev pub arrow_count : ℕ
arrow_count = 961

-- A difference that the table has, in x or in y.
abbrev pub in_table : ℤ → Bool
in_table d = leb (nat_abs d) table_limit

-- The difference at place i of a row, or of row i: the first is −15.
abbrev pub difference_at : ℕ → ℤ
difference_at i = sub_ℕ i table_limit

-- The entry at a place of the table: dy by the row, and dx by the place in it.
unfoldable pub entry_at : ℕ → ℕ
entry_at i = octant (difference_at (i % row_length)) (difference_at (i / row_length))

-- The table.
unfoldable pub arrow_table : List ℕ
arrow_table = tab entry_at arrow_count

-- Where a difference stands in its row, and its row in the table.
abbrev pub offset : ℤ → ℕ
offset d = nat_abs (d +ℤ pos table_limit)

-- The entry for a difference.
unfoldable pub entry : ℤ → ℤ → ℕ
entry dx dy = get_or arrow_table (row_length * offset dy + offset dx) 0
