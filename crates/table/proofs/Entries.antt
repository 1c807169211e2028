-- The table: where a difference stands in it, an entry of it, and an entry worked out.
use mathlib.Core.Path.{◌≡◌, refl, sym, ap₂, subst, ◌∙◌}
use mathlib.Core.List.{List}
use Prim.Native.Nat.{ℕ, ◌+◌, ◌*◌, ◌/◌, ◌%◌, ◌<◌}
use native.Mathlib.Omega.{arith}
use lib.Dec.{T, leb→le}
use lib.IntN.{ℤ, pos, nat_abs, ◌-ℤ◌}
use lib.ListN.{get_or}
use mir.Syntax.{w32}
use mir.Val.{SFits}
use Rattle.arrays.proofs.Signed.{read, read_is, read_one}
use Rattle.octants.specs.Octant.{octant}
use Rattle.plane.proofs.Signed.{raised, lowered, lowered_fits}
use Rattle.table.specs.Table.{table_limit, row_length, in_table, difference_at, offset, entry_at, arrow_table, entry}

-- Where a difference in the table stands is in its row.
pub offset-small : (d : ℤ) → T (in_table d) → offset d < row_length
offset-small d t = omega (arith, (raised table_limit d (leb→le (nat_abs d) table_limit t)).1)

-- An entry of a list that is the table.
pub entry_is : (l : List ℕ) → l ≡ arrow_table → (dx dy : ℤ) (r c : ℕ) → r ≡ offset dy → c ≡ offset dx → get_or l (row_length * r + c) 0 ≡ entry dx dy
unfolding entry
entry_is l t dx dy r c e f = rw (t, e, f) refl

-- The difference at place a of a row, as it is worked out and read back from its bits.
module _ (a : ℕ) (h : a < row_length) where
  lowered_read : read (pos a) -ℤ pos table_limit ≡ difference_at a
  lowered_read = read_one (λ (z : ℤ). z -ℤ pos table_limit) {x = pos a} (record { sfits = omega arith }) ∙ lowered a table_limit

  pub difference_fits : SFits w32 (read (pos a) -ℤ pos table_limit)
  difference_fits = subst (SFits w32) (sym lowered_read) (lowered_fits a table_limit (omega arith) (omega arith))

  difference_read : read (read (pos a) -ℤ pos table_limit) ≡ difference_at a
  difference_read = read_is difference_fits lowered_read

pub entry_worked : (i : ℕ) → i % row_length < row_length → i / row_length < row_length
    → octant (read (read (pos (i % row_length)) -ℤ pos table_limit)) (read (read (pos (i / row_length)) -ℤ pos table_limit)) ≡ entry_at i
unfolding entry_at
entry_worked i h k = ap₂ octant (difference_read (i % row_length) h) (difference_read (i / row_length) k)
