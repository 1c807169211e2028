-- `buffer::put_pairs` meets its contract. The invariant: the pairs passed are put, and the next section starts where the last one ends.
use native.Mathlib.Omega.{arith}
use Rattle.buffer.proofs.Pairs.{none_put, pair_put, next-within}
use Rattle.buffer.proofs.put_pairs.Goals as goal

pub loop-size-init : goal.loop-size-init
loop-size-init c = none_put _ _ _ _

pub overflow_add-offset : goal.overflow_add-offset
overflow_add-offset c = omega (arith, next-within _ _ _ _ c.loop-size.invariant c.loop-size-test.true, c.requires.sizes_bound)

pub loop-size-preserved : goal.loop-size-preserved
loop-size-preserved c = let put = c.loop-size.invariant.put in
    pair_put _ _ _ _ c.loop-size.invariant c.loop-size-test.true (omega (arith, put.most, put.same, c.requires.sizes_in_bounds))
    c.put_pair-next.ensures c.put_pair-next.auto.out
