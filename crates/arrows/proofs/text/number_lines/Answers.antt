-- `arrows::text::number_lines` meets its contract: a turn writes the line of one number more.
use Rattle.std.proofs.Common.{arith}
use Rattle.arrays.proofs.paste.Lines.{each-first_none, each-first_more}
use Rattle.arrows.specs.Text.{line_room, number_line}
use Rattle.arrows.proofs.text.number_lines.Goals as goal

pub loop-n-init : goal.loop-n-init
loop-n-init c = each-first_none number_line line_room _ _ _ _

pub loop-n-preserved : goal.loop-n-preserved
loop-n-preserved c =
    let now = c.loop-n.invariant in
    let next = c.number_line-next in
    each-first_more number_line line_room _ _ _ _ now (omega arith) (omega arith) (omega (arith, c.requires, now.same, now.most))
    next.ensures.pasted next.ensures.upper_bound next.auto.out
