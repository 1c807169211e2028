-- `buffer::put_pairs` meets its contract. The invariant: the pairs passed are put, and the next section starts where the last one ends.
use Rattle.buffer.proofs.Pairs.{PairsPut}
use Rattle.buffer.proofs.put_pairs.Given as goal

abbrev pub invariant-loop-size : goal.invariant-loop-size
invariant-loop-size l = PairsPut l.sizes l.start l.initial.out l.at l.out l.offset l.next l.size-index
