-- `measures::kind_lengths` meets its contract. The invariant: the edges passed are added up, each in the sum of its kind.
use mathlib.Core.Path.{◌∙◌}
use native.Mathlib.Omega.{arith}
use Rattle.measures.proofs.Sums.{sums_none, kind_is, sum_fits, sums_more, sums_all}
use Rattle.measures.proofs.kind_lengths.Goals as goal

pub loop-i-init : goal.loop-i-init
loop-i-init c = sums_none c.args.d

pub bounds-sums-k : goal.bounds-sums-k
bounds-sums-k c =
    omega (arith, (kind_is c.args.d c.requires.valid_contents c.edge_at-e.ensures (c.from-k.ensures ∙ c.edge_kind.ensures)).1)

pub overflow_add-sums : goal.overflow_add-sums
overflow_add-sums c =
    let k = kind_is c.args.d c.requires.valid_contents c.edge_at-e.ensures (c.from-k.ensures ∙ c.edge_kind.ensures) in
    let fits = sum_fits c.args.d c.requires.valid_contents _ _ _ _ c.loop-i.invariant c.edge_at-e.ensures k.0 k.1 in
    omega (arith, fits, c.loop-i-test.true, c.args.d.form.in_order.keys_few)

pub bounds-sums-k-in-loop-i : goal.bounds-sums-k-in-loop-i
bounds-sums-k-in-loop-i c =
    omega (arith, (kind_is c.args.d c.requires.valid_contents c.edge_at-e.ensures (c.from-k.ensures ∙ c.edge_kind.ensures)).1)

pub loop-i-preserved : goal.loop-i-preserved
loop-i-preserved c =
    let k = kind_is c.args.d c.requires.valid_contents c.edge_at-e.ensures (c.from-k.ensures ∙ c.edge_kind.ensures) in
    sums_more c.args.d c.requires.valid_contents _ _ _ _ c.loop-i.invariant c.edge_at-e.ensures k.0 k.1

pub returns : goal.returns
returns c = sums_all c.args.d c.loop-i.invariant c.loop-i-test.false
