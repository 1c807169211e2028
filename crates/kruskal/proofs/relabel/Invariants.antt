-- `kruskal::relabel` meets its contract. The invariant: the labels passed are moved, and the others are as they were.
use lib.ListN.{get_or}
use Rattle.kruskal.specs.Labels.{moved}
use Rattle.kruskal.proofs.Fill.{Filled}
use Rattle.kruskal.proofs.relabel.Given as goal

abbrev pub invariant-loop-label : goal.invariant-loop-label
invariant-loop-label l = Filled (λ u. u) (λ u. moved l.a l.b (get_or l.initial.labels u 0)) 128 l.initial.labels l.labels l.label-index
