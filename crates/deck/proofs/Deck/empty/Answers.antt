-- `deck::Deck::empty` meets its contract, by computation.
use lib.ListN.{replicate}
use Rattle.spanning.specs.Kruskal.{kruskal}
use Rattle.arrays.specs.Set.{union}
use Rattle.model.specs.Tree.{pairs, edges, mst}
use Rattle.model.specs.State.{points}
use Rattle.model.specs.Question.{listed}
use Rattle.deck.specs.Form.{deck_of}
use Rattle.deck.proofs.Deck.empty.Goals as goal

pub returns : goal.returns
unfolding deck_of listed union mst kruskal edges pairs points
returns c = λ i. record { points = c.empty.ensures i; kinds = replicate 64 0; tail = 0; ends = replicate 128 0 }
