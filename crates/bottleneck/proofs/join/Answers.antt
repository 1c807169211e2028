-- `bottleneck::join` meets its contract. The invariant: the rows below i are those of the merge, and the others are as they were. A row
-- whose number has the label a is filled where the label is b, one with the label b where it is a, and any other is left.
use native.Mathlib.Omega.{arith}
use Rattle.bottleneck.proofs.Rows.{rows_none, rows-first, rows-second, rows_skip}
use Rattle.bottleneck.proofs.join.Goals as goal
use Rattle.bottleneck.proofs.join.Goals.{then-label-a, else-label-a+then-label-b as then-label-b, else-label-a+else-label-b as else-label-b}

pub loop-i-init : goal.loop-i-init
loop-i-init c = rows_none

pub loop-i-preserved : goal.loop-i-preserved
loop-i-preserved c = let r = c.loop-i.invariant in
    elim c.if-label-a.branch [
      | then-label-a w ↦ rw w.table-is (rows-first r (omega arith) (omega arith) w.if-label-a.true w.fill_row.auto.table w.fill_row.ensures)
      | then-label-b w ↦ rw w.table-is
          (rows-second r (omega arith) (omega arith) w.if-label-a.false w.if-label-b.true w.fill_row-then-label-b.auto.table
          w.fill_row-then-label-b.ensures)
      | else-label-b w ↦ rw w.table-is (rows_skip r (omega arith) (omega arith) w.if-label-a.false w.if-label-b.false)
    ]
