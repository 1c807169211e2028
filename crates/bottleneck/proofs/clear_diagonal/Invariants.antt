-- `bottleneck::clear_diagonal` meets its contract. The invariant: the entries of the numbers below i with themselves are 0.
use Prim.Native.Nat.{◌+◌, ◌*◌}
use Rattle.keys.specs.Keys.{places}
use Rattle.kruskal.proofs.Fill.{Filled}
use Rattle.bottleneck.proofs.clear_diagonal.Given as goal

abbrev pub invariant-loop-i : goal.invariant-loop-i
invariant-loop-i l = Filled (λ u. u * places + u) (λ u. 0) l.n l.initial.table l.table l.i
