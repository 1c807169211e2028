-- `bottleneck::fill_row` meets its contract. The invariant: the first j entries of the row are chosen, and the others are as they were.
use Prim.Native.Nat.{◌+◌}
use lib.ListN.{length, get_or}
use Rattle.kruskal.proofs.Fill.{Filled}
use Rattle.bottleneck.specs.Table.{chosen}
use Rattle.bottleneck.proofs.fill_row.Given as goal

abbrev pub invariant-loop-j : goal.invariant-loop-j
invariant-loop-j l = Filled (λ u. l.start + u) (λ u. chosen l.wanted l.w (get_or l.labels u 0) (get_or l.initial.table (l.start + u) 0)) (length l.labels)
    l.initial.table l.table l.j
