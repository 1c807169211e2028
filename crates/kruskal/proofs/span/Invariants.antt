-- `kruskal::span` meets its contract. The invariant: the labels are those of the keys kept so far, and these, with what Kruskal's
-- method keeps of the rest, are all that it keeps. A key between two labels is kept, and one within a label is skipped.
use Rattle.kruskal.proofs.Pass.{Pass}
use Rattle.kruskal.proofs.span.Given as goal

abbrev pub invariant-loop-key : goal.invariant-loop-key
invariant-loop-key l = Pass l.keys l.initial.out l.out l.labels l.n l.key-index
