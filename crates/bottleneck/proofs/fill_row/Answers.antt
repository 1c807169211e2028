-- `bottleneck::fill_row` meets its contract. The invariant: the first j entries of the row are chosen, and the others are as they were.
use mathlib.Core.Path.{ap, ◌∙◌}
use Prim.Native.Nat.{◌+◌}
use native.Mathlib.Omega.{arith}
use lib.ListN.{get_or}
use Rattle.kruskal.proofs.Fill.{fill_none, fill_more}
use Rattle.bottleneck.specs.Table.{chosen}
use Rattle.bottleneck.proofs.fill_row.Goals as goal

pub loop-j-init : goal.loop-j-init
loop-j-init c = fill_none

pub loop-j-preserved : goal.loop-j-preserved
loop-j-preserved c = let r = c.loop-j.invariant in
    let a = c.args in
    let old = r.rest (a.start + c.loop-j.j) (λ u h e. omega arith) in
    fill_more r (omega arith) (omega arith) (λ u h e. omega arith)
    (c.choice.ensures ∙ ap (chosen a.wanted a.w (get_or a.labels.now c.loop-j.j 0)) old)

pub shape_of-table : goal.shape_of-table
shape_of-table c = c.loop-j.invariant.size

pub returns : goal.returns
returns c = let r = c.loop-j.invariant in
    record { inside = λ j h. r.done j (omega arith); outside = λ p h. r.rest p (λ u l. h u (omega arith)) }
