-- `edges::length_of` meets its contract: the keys are those of the tree, their total its distances together, and each has two tails.
use mathlib.Core.Path.{ap, ◌∙◌}
use Prim.Native.Nat.{ℕ, ◌+◌, ◌*◌}
use native.Mathlib.Omega.{arith}
use lib.ListN.{length-take}
use Rattle.edges.proofs.Numbers.{length_is_lem, length-fits}
use Rattle.edges.proofs.length_of.Goals as goal

pub total_of-requires : goal.total_of-requires
total_of-requires c = omega (arith, length-take c.args.w.nkeys c.args.w.keys, c.args.w.in_order.keys_few)

pub overflow_mul-result-2 : goal.overflow_mul-result-2
overflow_mul-result-2 c = omega (
  arith,
  (ap (λ (n : ℕ). n + 2 * c.args.tail * c.args.w.nkeys) c.total_of.ensures
      ∙ length_is_lem c.args.w c.args.tail),
  length-fits c.args.w _ c.requires.tail_le_longest_tail,
)

pub overflow_add-result : goal.overflow_add-result
overflow_add-result c = omega (
  arith,
  (ap (λ (n : ℕ). n + 2 * c.args.tail * c.args.w.nkeys) c.total_of.ensures
      ∙ length_is_lem c.args.w c.args.tail),
  length-fits c.args.w _ c.requires.tail_le_longest_tail,
)

pub returns : goal.returns
returns c = ap (λ (n : ℕ). n + 2 * c.args.tail * c.args.w.nkeys) c.total_of.ensures ∙ length_is_lem c.args.w c.args.tail
