-- `lines::Line::take_all` meets its contract: a line feed ends the line, and another byte is one more of it.
use Rattle.std.proofs.Common.{arith, refl}
use Rattle.lines.specs.Lines.{taken_all}
use Rattle.lines.proofs.Taking.{taken_feed, taken-byte}
use Rattle.lines.proofs.line.Line.take_all.Goals as goal
use Rattle.lines.proofs.line.Line.take_all.Goals.{then-b-eq10, else-b-eq10}

pub loop-b-init : goal.loop-b-init
unfolding taken_all
loop-b-init g c = (c.requires, refl)

pub loop-b-preserved : goal.loop-b-preserved
loop-b-preserved g c =
    let after = g.T.TakesLines.after in
    let now = c.loop-b.invariant in
    elim c.if-b-eq10.branch [
      | then-b-eq10 w ↦
          let e = taken_feed after _ _ _ _ (omega arith) now.1 w.if-b-eq10.true w.take_line.ensures.known in
          rw (w.to-is, w.self-is) (w.take_line.ensures.ready, e)
      | else-b-eq10 w ↦
          let e = taken-byte after _ _ _ _ (omega arith) now.1 w.if-b-eq10.false w.push.ensures in
          rw (w.to-is, w.self-is) (now.0, e)
    ]
