-- `edges::edge_at` meets its contract: the codes at the two numbers are those of the edge's ends.
use mathlib.Core.Path.{refl, ap}
use Prim.Native.Nat.{ℕ, ◌+◌, ◌*◌}
use native.Mathlib.Omega.{arith}
use Rattle.edges.proofs.Numbers.{near-codes, both-within, edge_found}
use Rattle.edges.proofs.edge_at.Goals as goal

pub offset_bounds-codes-both : goal.offset_bounds-codes-both
offset_bounds-codes-both c = omega (arith, (both-within c.args.w _ c.requires.ends_value _ c.requires.i_lt_nkeys).0, c.args.w.in_order.few)

pub bounds-codes-both : goal.bounds-codes-both
bounds-codes-both c = omega (arith, (both-within c.args.w _ c.requires.ends_value _ c.requires.i_lt_nkeys).0, c.args.w.in_order.few)

pub overflow_add-result : goal.overflow_add-result
overflow_add-result c = omega (arith, near-codes _ _ _ c.distance_of.ensures, c.requires.tail_le_longest_tail)

pub returns : goal.returns
returns c = edge_found c.args.w _ c.requires.ends_value _ c.requires.i_lt_nkeys _ _ _ refl
    (ap (λ (n : ℕ). n + 2 * c.args.tail) c.distance_of.ensures)
