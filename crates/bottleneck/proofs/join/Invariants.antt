-- `bottleneck::join` meets its contract. The invariant: the rows below i are those of the merge, and the others are as they were. A row
-- whose number has the label a is filled where the label is b, one with the label b where it is a, and any other is left.
use lib.ListN.{length}
use Rattle.bottleneck.proofs.Rows.{RowsTo}
use Rattle.bottleneck.proofs.join.Given as goal

abbrev pub invariant-loop-i : goal.invariant-loop-i
invariant-loop-i l = RowsTo l.labels l.a l.b l.w (length l.labels) l.initial.table l.table l.i
