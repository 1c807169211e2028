-- `display_c::display_arrow` meets its contract, by that of the library's function, whose arguments are read back from their bits.
use mathlib.Core.Path.{ap, ◌∙◌}
use Rattle.arrow.proofs.Answers.{read-arrow}
use Rattle.display.specs.Entry.{indication_number}
use Rattle.display_c.proofs.display_arrow.Goals as goal

pub returns : goal.returns
returns c =
    let s = c.ranges in
    c.display_arrow.ensures ∙ ap indication_number (read-arrow c.args.x c.args.y c.args.u c.args.v c.args.pitch s.x s.y s.u s.v s.pitch)
