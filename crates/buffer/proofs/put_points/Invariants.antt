-- `buffer::put_points` meets its contract. The invariant: those passed are put.
use lib.ListN.{length}
use Rattle.arrays.proofs.paste.Lines.{PutFirst, each_to}
use Rattle.sections.specs.Bytes.{code_bytes}
use Rattle.buffer.proofs.put_points.Given as goal

abbrev pub invariant-loop-code : goal.invariant-loop-code
invariant-loop-code l = PutFirst (each_to code_bytes l.codes) 4 (length l.codes) l.initial.out l.out l.at l.next l.code-index
