-- `measures::kind_lengths` meets its contract. The invariant: the edges passed are added up, each in the sum of its kind.
use Rattle.measures.proofs.Sums.{SumsTo}
use Rattle.measures.proofs.kind_lengths.Given as goal

abbrev pub invariant-loop-i : goal.invariant-loop-i
invariant-loop-i l = SumsTo l.d l.sums l.i
