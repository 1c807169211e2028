-- `kruskal::span` meets its contract. The invariant: the labels are those of the keys kept so far, and these, with what Kruskal's
-- method keeps of the rest, are all that it keeps. A key between two labels is kept, and one within a label is skipped.
use mathlib.Core.Path.{refl}
use native.Mathlib.Omega.{arith}
use Rattle.kruskal.proofs.Labels.{labels_none}
use Rattle.kruskal.proofs.Pass.{pass_none, pass_skip, pass_keep, pass_end}
use Rattle.kruskal.proofs.span.Goals as goal
use Rattle.kruskal.proofs.span.Goals.{then-a-b, else-a-b}

pub slice_bounds-separate-end : goal.slice_bounds-separate-end
slice_bounds-separate-end c = refl

pub separate-requires : goal.separate-requires
separate-requires c = refl

pub loop-key-init : goal.loop-key-init
loop-key-init c = pass_none (labels_none c.separate.auto.labels c.separate.ensures)

pub loop-key-preserved : goal.loop-key-preserved
loop-key-preserved c = let r = c.loop-key.invariant in
    elim c.if-a-b.branch [
      | then-a-b w ↦ rw (w.out-is, w.labels-is, w.n-is)
          (pass_keep r (omega arith) _ refl c.low.ensures c.high.ensures c.requires w.if-a-b.true w.relabel.auto.labels w.relabel.ensures)
      | else-a-b w ↦ rw (w.out-is, w.labels-is, w.n-is)
          (pass_skip r (omega arith) _ refl c.low.ensures c.high.ensures w.if-a-b.false)
    ]

pub shape_of-out : goal.shape_of-out
shape_of-out c = c.loop-key.invariant.size

pub returns : goal.returns
returns c = pass_end c.loop-key.invariant (omega arith)
