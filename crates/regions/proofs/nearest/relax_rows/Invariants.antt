-- `regions::nearest::relax_rows` meets its contract. The invariant: the rows passed are relaxed.
use Rattle.regions.specs.Nearest.{Relaxed}
use Rattle.regions.proofs.nearest.relax_rows.Given as goal

abbrev pub invariant-loop-r : goal.invariant-loop-r
invariant-loop-r l = Relaxed l.gaps l.start l.from l.r l.along l.steep l.flat l.initial.least l.least
