-- The claim on whole lists of calls (SPEC 6) that the proof of demand 3 goes through. The demand says it of what the deck answers.
use Rattle.std.specs.Prelude.{◌≡◌, ◌↔◌, ℕ, ◌≤◌}
use mathlib.Core.List.{List, Memᴰ}
use Rattle.plane.specs.Point.{Point}
use Rattle.model.specs.State.{points}
use Rattle.model.specs.Contents.{Contents}
use Rattle.model.specs.Question as question
use Rattle.model.specs.Call as call
use Rattle.model.specs.Session as model
use Rattle.deck.specs.declared.Deck.{Deck}
use Rattle.calls.specs.declared.Reply.TheVariants.{Finished, Rounds}
use Rattle.deck.specs.Form.{deck_of, contents_of, Sound}
use Rattle.deck.specs.Calls.{called}
use Rattle.deck.specs.Questions.{asked}
use Rattle.questions.specs.Answers.{length_answer, edge_at_answer, of_length, of_edge}
use Rattle.deck.specs.Session.{deck_after, replies, reckoned, DeckRoundsTo}

-- What holds of a deck d that a list of calls leads to, c being the contents reckoned.
pub record SessionDeck (d : Deck) (c : Contents) : Type 0 where
  -- it is sound, and holds what is reckoned
  pub sound : Sound d
  pub contents : contents_of d ≡ c
  -- of them: the tree is least among all trees over them (`least`), and the rest of the model's claim
  pub session : model.SessionContents c
  -- the deck's tree is that tree: its length and its edges, as the questions answer them
  pub length_is : asked d of_length ≡ length_answer c
  pub edge : (i : ℕ) → asked d (of_edge i) ≡ edge_at_answer i c
  -- a round answers finished exactly if no one more point anywhere on the integer plane would shorten the tree
  pub finish_exact : ((called d call.one_round).reply ≡ Finished) ↔ ((q : Point) → ¬ Memᴰ q (points c.state) → model.NoShorter c.tail c.state q)
  -- the run to the end stops at the deck that rounds alone lead to, and answers how many named a tap, at most one for each centimetre
  pub count : ℕ
  pub counted : (called d call.run_to_end).reply ≡ Rounds count
  pub rounds_end : DeckRoundsTo d count (called d call.run_to_end).next
  pub rounds-few : count ≤ question.length_of_contents c

-- The claim: after any list of calls, refused ones too, from an empty deck or an accepted file, the deck is as said, and so is
-- every reply.
abbrev pub DeckSessions : Type 0
DeckSessions =
    (c : Contents) → model.StartContents c → (calls : List call.Call)
    → SessionDeck (deck_after (deck_of c) calls) (call.contents_after c calls) × (replies (deck_of c) calls ≡ reckoned c calls)
