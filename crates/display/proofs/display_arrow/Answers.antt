-- `display::display_arrow` meets its contract: what is shown is told, and the arguments are read back from their bits.
use mathlib.Core.Path.{◌≡◌, sym, ap, ◌∙◌}
use mathlib.Core.Logic.{⊎_elim}
use Rattle.arrow.proofs.Answers.{read-arrow}
use Rattle.display.specs.Entry.{indication_number}
use Rattle.display.proofs.display_arrow.Goals as goal

pub returns : goal.returns
unfolding indication_number
returns c =
    let s = c.ranges in
    let number : c.in-Ok.n ≡ indication_number c.arrow.result =
    ⊎_elim (λ e. ap indication_number (sym e)) (λ e. ap indication_number (sym e)) c.in-Ok.is in
    c.from.ensures ∙ number ∙ ap indication_number (c.arrow.ensures ∙ read-arrow _ _ _ _ _ s.x s.y s.u s.v s.pitch)
