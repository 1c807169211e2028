-- `deckfile::read` meets its contract: the deck of the working form, and the same reply.
use mathlib.Core.Path.{◌∙◌}
use Rattle.deckfile.proofs.reader.LastCheck.{read_outcome_lem}
use Rattle.deckfile.proofs.read.Goals as goal

pub returns : goal.returns
returns c = c.from.ensures ∙ read_outcome_lem _ _ c.read_working.ensures
