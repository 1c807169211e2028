-- `working::deck::WorkingDeck::empty` meets its contract: a deck without points has a working form.
use mathlib.Core.Path.{subst⁻¹}
use Rattle.model.specs.State.{empty}
use Rattle.model.proofs.Session.{empty-valid}
use Rattle.points.specs.Coded.{Arranged}
use Rattle.points.proofs.Coded.{valid-arranged}
use Rattle.working.proofs.deck.Following.{empty_contents_lem}
use Rattle.working.proofs.deck.WorkingDeck.empty.Goals as goal

pub arrange-requires : goal.arrange-requires
arrange-requires c = subst⁻¹ Arranged c.empty.ensures (valid-arranged empty empty-valid)

pub returns : goal.returns
returns c = empty_contents_lem c.arrange.result _ c.empty.ensures c.arrange.ensures _
