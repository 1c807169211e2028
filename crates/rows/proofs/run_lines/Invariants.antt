-- `rows::run_lines`: the lines of the edges passed are written.
use Rattle.model.specs.Question.{listed}
use Rattle.arrays.proofs.paste.Lines.{PutFirst}
use Rattle.working.specs.InOrder.{state_of}
use Rattle.rows.proofs.Lines.{run_text}
use Rattle.rows.proofs.run_lines.Given as goal

abbrev pub invariant-loop-i : goal.invariant-loop-i
invariant-loop-i l = PutFirst (run_text l.tail (listed (state_of l.w))) 53 l.w.nkeys l.initial.out l.out l.at l.next l.i
