-- `sections::edges::same_edges` meets its contract. The invariant: the bytes of the edges passed are the same.
use Prim.Native.Nat.{◌*◌}
use Rattle.arrays.proofs.Alike.{Alike}
use Rattle.sections.specs.Bytes.{edge_bytes}
use Rattle.sections.proofs.edges.same_edges.Given as goal

abbrev pub invariant-loop-i : goal.invariant-loop-i
invariant-loop-i l = Alike l.b (edge_bytes l.ends) (2 * l.i)
