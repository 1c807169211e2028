-- `deckfile::answer::number_of` meets its contract: one case for each kind of answer.
use mathlib.Core.Path.{sym, ap, ◌∙◌}
use Rattle.deckfile.specs.Answer.{written_number}
use Rattle.deckfile.proofs.answer.number_of.Goals as goal

pub returns-in-Ok : goal.returns-in-Ok
unfolding written_number
returns-in-Ok c = sym (ap written_number c.in-Ok.is)

pub returns-in-Err : goal.returns-in-Err
unfolding written_number
returns-in-Err c = c.from.ensures ∙ sym (ap written_number c.in-Err.is)
