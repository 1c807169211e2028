-- `bottleneck::fill` meets its contract. The invariant: the labels are those of the keys seen so far, and the table has the bottlenecks of
-- the numbers that these connect. A key between two labels fills the entries that it connects, and one within a label is skipped.
use Rattle.bottleneck.proofs.TablePass.{TablePass}
use Rattle.bottleneck.proofs.fill.Given as goal

abbrev pub invariant-loop-key : goal.invariant-loop-key
invariant-loop-key l = TablePass l.keys l.n l.table l.labels l.key-index
