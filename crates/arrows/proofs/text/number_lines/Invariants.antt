-- The invariant: the lines of the numbers passed are written.
use Rattle.std.proofs.Common.{length}
use Rattle.arrays.proofs.paste.Lines.{PutFirst, each_to}
use Rattle.arrows.specs.Text.{line_room, number_line}
use Rattle.arrows.proofs.text.number_lines.Given as goal

abbrev pub invariant-loop-n : goal.invariant-loop-n
invariant-loop-n l =
    PutFirst (each_to number_line l.numbers) line_room (length l.numbers) l.initial.out l.out l.initial.next l.next l.n-index
