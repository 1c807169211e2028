-- `lines::Line::finish` meets its contract: no byte, or one more line.
use Rattle.std.proofs.Common.{arith, ◌∙◌}
use Rattle.lines.proofs.Taking.{end_none, end_some}
use Rattle.lines.proofs.line.Line.finish.Goals as goal

pub returns-then-self-gt0-clause-taken : goal.returns-then-self-gt0-clause-taken
returns-then-self-gt0-clause-taken g c =
    c.take_line.ensures.known ∙ end_some g.T.TakesLines.after _ _ _ (omega arith) c.if-self-gt0.true

pub returns-else-self-gt0-clause-taken : goal.returns-else-self-gt0-clause-taken
returns-else-self-gt0-clause-taken g c = end_none g.T.TakesLines.after _ _ _ (omega arith) (omega arith)
