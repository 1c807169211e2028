-- `buffer::put_edges` meets its contract. The invariant: those passed are put.
use lib.ListN.{length}
use Rattle.arrays.proofs.paste.Lines.{PutFirst, each_to}
use Rattle.sections.specs.Bytes.{ends_bytes}
use Rattle.buffer.proofs.put_edges.Given as goal

abbrev pub invariant-loop-edge : goal.invariant-loop-edge
invariant-loop-edge l = PutFirst (each_to ends_bytes l.ends) 2 (length l.ends) l.initial.out l.out l.at l.next l.edge-index
