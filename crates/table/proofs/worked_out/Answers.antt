-- `table::worked_out` meets its contract. The invariant: the first i places hold the first i entries of the table.
use mathlib.Core.Path.{◌≡◌, refl, subst, ◌∙◌}
use Prim.Native.Nat.{ℕ, ◌/◌, ◌%◌}
use native.Mathlib.Omega.{arith}
use lib.ListN.{take, length-set}
use Rattle.arrays.specs.Tab.{tab}
use Rattle.arrays.proofs.Tab.{tab_more, tab-whole}
use Rattle.table.specs.Table.{entry_at, arrow_count, arrow_table}
use Rattle.table.proofs.Entries.{difference_fits, entry_worked}
use Rattle.table.proofs.worked_out.Goals as goal

pub loop-i-init : goal.loop-i-init
unfolding tab
loop-i-init c = (refl, refl)

pub overflow_sub-dx : goal.overflow_sub-dx
overflow_sub-dx c = difference_fits (c.loop-i.i % 31) (omega arith)

pub overflow_sub-dy : goal.overflow_sub-dy
overflow_sub-dy c = difference_fits (c.loop-i.i / 31) (omega (arith, c.loop-i-test.true))

pub loop-i-preserved : goal.loop-i-preserved
loop-i-preserved c = let l = c.loop-i in
    let size = l.invariant.0 in
    let value = c.octant.ensures ∙ entry_worked l.i (omega arith) (omega (arith, c.loop-i-test.true)) in (
      length-set l.numbers l.i c.octant.result ∙ size,
      tab_more entry_at l.numbers l.i c.octant.result (omega (arith, size, c.loop-i-test.true)) l.invariant.1 value,
    )

pub returns : goal.returns
unfolding arrow_table
returns c = let l = c.loop-i in
    let all : l.i ≡ arrow_count = omega (arith, c.loop-i-test.false) in
    tab-whole entry_at l.numbers arrow_count l.invariant.0 (subst (λ (n : ℕ). take n l.numbers ≡ tab entry_at n) all l.invariant.1)
