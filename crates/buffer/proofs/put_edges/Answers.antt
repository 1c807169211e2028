-- `buffer::put_edges` meets its contract. The invariant: those passed are put.
use native.Mathlib.Omega.{arith}
use Rattle.arrays.proofs.paste.Lines.{each-first_none, each-first_more}
use Rattle.sections.specs.Bytes.{ends_bytes}
use Rattle.buffer.proofs.put_edges.Goals as goal

pub loop-edge-init : goal.loop-edge-init
loop-edge-init c = each-first_none ends_bytes 2 _ _ _ _

pub loop-edge-preserved : goal.loop-edge-preserved
loop-edge-preserved c = each-first_more ends_bytes 2 _ _ _ _ c.loop-edge.invariant (omega arith) (omega arith) (omega arith)
    c.put_edge-next.ensures (omega (arith, c.put_edge-next.ensures.next)) c.put_edge-next.auto.out
