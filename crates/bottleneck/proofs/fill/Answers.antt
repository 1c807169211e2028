-- `bottleneck::fill` meets its contract. The invariant: the labels are those of the keys seen so far, and the table has the bottlenecks of
-- the numbers that these connect. A key between two labels fills the entries that it connects, and one within a label is skipped.
use mathlib.Core.Path.{refl}
use native.Mathlib.Omega.{arith}
use Rattle.kruskal.proofs.Labels.{labels_none}
use Rattle.bottleneck.proofs.Rows.{merged_first}
use Rattle.bottleneck.proofs.TablePass.{pass_none, pass_skip, pass_merge, pass_end, next-short}
use Rattle.bottleneck.proofs.fill.Goals as goal
use Rattle.bottleneck.proofs.fill.Goals.{then-a-b, else-a-b}

pub clear_diagonal-requires : goal.clear_diagonal-requires
clear_diagonal-requires c = (c.requires.few, c.requires.room)

pub slice_bounds-separate-end : goal.slice_bounds-separate-end
slice_bounds-separate-end c = refl

pub separate-requires : goal.separate-requires
separate-requires c = refl

pub loop-key-init : goal.loop-key-init
loop-key-init c = pass_none c.requires c.clear_diagonal.auto.table
    (labels_none c.separate.auto.labels c.separate.ensures) c.clear_diagonal.ensures

pub overflow_cast-weight : goal.overflow_cast-weight
overflow_cast-weight c = omega (arith, next-short c.loop-key.invariant c.loop-key-test.true)

pub loop-key-preserved : goal.loop-key-preserved
loop-key-preserved c = let r = c.loop-key.invariant in
    elim c.if-a-b.branch [
      | then-a-b w ↦ rw (w.table-is, w.labels-is)
          (pass_merge r c.loop-key-test.true _ refl c.low.ensures c.high.ensures w.if-a-b.true w.weight.ensures w.join.auto.table
          (merged_first _ _ _ _ _ _ _ (omega arith) w.join.ensures) w.relabel.auto.labels w.relabel.ensures)
      | else-a-b w ↦ rw (w.table-is, w.labels-is) (pass_skip r c.loop-key-test.true _ refl c.low.ensures c.high.ensures w.if-a-b.false)
    ]

pub returns : goal.returns
returns c = pass_end c.loop-key.invariant (omega arith)
