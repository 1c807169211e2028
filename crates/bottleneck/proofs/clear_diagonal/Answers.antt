-- `bottleneck::clear_diagonal` meets its contract. The invariant: the entries of the numbers below i with themselves are 0.
use mathlib.Core.Path.{refl}
use native.Mathlib.Omega.{arith}
use Rattle.kruskal.proofs.Fill.{fill_none, fill_more}
use Rattle.bottleneck.proofs.clear_diagonal.Goals as goal

pub loop-i-init : goal.loop-i-init
loop-i-init c = fill_none

pub loop-i-preserved : goal.loop-i-preserved
loop-i-preserved c = fill_more c.loop-i.invariant (omega arith) (omega arith) (λ u h e. omega arith) refl

pub shape_of-table : goal.shape_of-table
shape_of-table c = c.loop-i.invariant.size

pub returns : goal.returns
returns c u h = c.loop-i.invariant.done u (omega arith)
