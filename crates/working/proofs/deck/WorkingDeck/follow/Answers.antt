-- `working::deck::WorkingDeck::follow` meets its contract: the kinds beside codes are those beside their points.
use mathlib.Core.Path.{refl}
use Rattle.working.proofs.deck.Following.{followed}
use Rattle.working.proofs.deck.WorkingDeck.follow.Goals as goal

pub returns : goal.returns
returns c = (refl, followed c.args.self c.args.next _ c.next_kinds-kinds.ensures)
