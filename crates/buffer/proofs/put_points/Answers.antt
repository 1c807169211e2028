-- `buffer::put_points` meets its contract. The invariant: those passed are put.
use native.Mathlib.Omega.{arith}
use Rattle.arrays.proofs.paste.Lines.{each-first_none, each-first_more}
use Rattle.sections.specs.Bytes.{code_bytes}
use Rattle.buffer.proofs.put_points.Goals as goal

pub loop-code-init : goal.loop-code-init
loop-code-init c = each-first_none code_bytes 4 _ _ _ _

pub loop-code-preserved : goal.loop-code-preserved
loop-code-preserved c = each-first_more code_bytes 4 _ _ _ _ c.loop-code.invariant (omega arith) (omega arith) (omega arith)
    c.put_point-next.ensures (omega (arith, c.put_point-next.ensures.next)) c.put_point-next.auto.out
