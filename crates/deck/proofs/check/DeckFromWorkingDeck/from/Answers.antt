-- `Deck::from` meets its contract: arranged points are those of their state, and zeros stand behind the kinds.
use Rattle.points.proofs.Coded.{arranged-coded}
use Rattle.deck.specs.Form.{deck_of}
use Rattle.deck.proofs.check.DeckFromWorkingDeck.from.Goals as goal

pub returns : goal.returns
unfolding deck_of
returns c = λ i. record {
  points = arranged-coded _ c.args.w.form.in_order.arranged i;
  kinds = c.in_front-kinds.ensures i;
  tail = c.args.w.tail;
  ends = c.edge_numbers-ends.ensures i;
}
