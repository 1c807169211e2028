-- What holds after any list of calls (SPEC 6.2 to 6.4), said of what the deck itself answers; and the bounds that only the program needs.
use Rattle.std.specs.Prelude.{◌≡◌, ◌⊎◌, ◌↔◌, ℕ, suc, ◌+◌, ◌≤◌, length}
use mathlib.Core.List.{List, ◌∷◌, Memᴰ}
use Rattle.arrays.specs.Set.{put}
use Rattle.spanning.specs.Graph.{Tree}
use Rattle.plane.specs.Point.{Point, lower}
use Rattle.plane.specs.Edge.{Edge, planar}
use Rattle.model.specs.Tail.{length_with, tree_length_with}
use Rattle.model.specs.State.{State, points}
use Rattle.model.specs.Contents.{Contents}
use Rattle.model.specs.Round.{candidates}
use Rattle.model.specs.Call as call
use Rattle.model.specs.Session.{most_points, longest_tree}
use Rattle.calls.specs.declared.Reply.TheVariants as reply
use Rattle.questions.specs.declared.Answer.TheVariants.{Length}
use Rattle.questions.specs.Answers.{of_length, of_edge, edge_answer}
use Rattle.deck.specs.declared.Deck.{Deck}
use Rattle.deck.specs.Form.{contents_of, Sound}
use Rattle.deck.specs.Calls.{called}
use Rattle.deck.specs.Questions.{asked}
use Rattle.deck.specs.Session.{DeckRoundsTo}

-- The deck d after a list of calls, c being the contents reckoned (SPEC 6.1). Every length has the tails in it that the contents have then.
pub record AfterCalls (d : Deck) (c : Contents) : Type 0 where
  pub sound : Sound d
  pub holds : contents_of d ≡ c
  -- its edges, as it answers them: a tree over the points, whose sum is the length that it answers, least among all trees over them
  pub runs : List Edge
  pub answered : (e : Edge) → Memᴰ e runs ↔ ((i : ℕ) × (asked d (of_edge i) ≡ edge_answer c.tail e))
  pub tree : Tree planar (points c.state) runs
  pub total : asked d of_length ≡ Length (length_with c.tail runs)
  pub least : (u : List Edge) → Tree planar (points c.state) u → length_with c.tail runs ≤ length_with c.tail u
  -- a round is finished exactly if with no one more point of the integer plane there is a shorter tree
  pub finished : ((called d call.one_round).reply ≡ reply.Finished)
      ↔ ((q : Point) → ¬ Memᴰ q (points c.state) → (u : List Edge) → Tree planar (q ∷ points c.state) u
      → length_with c.tail runs ≤ length_with c.tail u)
  -- rounds alone come to that within as many adding rounds as the tree has centimetres, and a run to the end answers how many did
  pub count : ℕ
  pub counted : (called d call.run_to_end).reply ≡ reply.Rounds count
  pub ends : DeckRoundsTo d count (called d call.run_to_end).next
  pub few : count ≤ length_with c.tail runs

-- Bounds that the program's arrays and numbers rest on (SPEC 4.1, 4.7).
pub record Bounds (tail : ℕ) (s : State) : Type 0 where
  -- two pins or more leave two Steiner points less than pins at most, fewer leave none
  pub steiner : (length s.steiner ≡ 0) ⊎ (length s.steiner + 2 ≤ length s.pins)
  -- points between calls and during a round, and the length of every tree that is built
  pub held : length (points s) ≤ most_points
  pub joined : (c : Point) → Memᴰ c (candidates (points s)) → length (put lower c (points s)) ≤ suc most_points
  pub long : tree_length_with tail (points s) ≤ longest_tree
  pub longer : (c : Point) → Memᴰ c (candidates (points s)) → tree_length_with tail (put lower c (points s)) ≤ longest_tree
