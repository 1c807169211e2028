-- What the published method gives, as relations on what a deck itself answers: its edges, its rounds, its sweeps, its run to the end.
use Rattle.std.specs.Prelude.{◌≡◌, ◌⊎◌, ◌↔◌, List, ℕ, ◌+◌, T, ℤ, pos}
use Rattle.std.specs.Int.Signed.{lt_z}
use Rattle.std.proofs.Math.ListN.{get_elem?}
use Rattle.arrays.specs.Set.{set_of}
use Rattle.plane.specs.Point.{Point, point}
use Rattle.plane.specs.Edge.{Edge, listed_before}
use Rattle.model.specs.Tree.{TheTree}
use Rattle.model.specs.Tail.{length_with}
use Rattle.model.specs.TailClaim.{TheTreeWith}
use Rattle.model.specs.State.{points, with_pin, without_pin}
use Rattle.model.specs.Round.{with_steiner}
use Rattle.model.specs.Choice.{Candidate, saved, Chosen, SweptTo}
use Rattle.model.specs.Call as call
use Rattle.calls.specs.declared.Reply.TheVariants as reply
use Rattle.questions.specs.declared.Answer.TheVariants.{Length}
use Rattle.questions.specs.Answers.{of_length, of_edge, edge_or_none}
use Rattle.deck.specs.declared.Deck.{Deck}
use Rattle.deck.specs.Form.{state_of}
use Rattle.deck.specs.Calls.{called}
use Rattle.deck.specs.Questions.{asked}
use Rattle.deck.specs.Session.{DeckRoundsTo}

-- The tree of a deck's points, by the rule for equals (SPEC 2.2), with the deck's tails and without, is what the deck answers: its edges in the
-- listing order and its length.
pub record RunsAreTree (d : Deck) (t : List Edge) : Type 0 where
  pub tree : TheTree (points (state_of d)) t
  pub with_tails : TheTreeWith d.tail (points (state_of d)) t
  pub edges : (i : ℕ) → asked d (of_edge i) ≡ edge_or_none d.tail (get_elem? (set_of listed_before t) i)
  pub total : asked d of_length ≡ Length (length_with d.tail t)

-- A round on a deck (SPEC 4.4), which is finished or adds a tap.
pub record RoundOf (d : Deck) : Type 0 where
  pub either : ((called d call.one_round).reply ≡ reply.Finished)
      ⊎ ((x y : ℤ) × (fall : ℕ) × ((called d call.one_round).reply ≡ reply.Tap x y fall))
  -- finished exactly if no candidate saves anything, and then the deck is the same
  pub finished : ((called d call.one_round).reply ≡ reply.Finished)
      ↔ ((c : Point) → Candidate (points (state_of d)) c → ¬ T (lt_z (pos 0) (saved d.tail (points (state_of d)) c)))
  pub unchanged : (called d call.one_round).reply ≡ reply.Finished → (called d call.one_round).next ≡ d
  -- the tap is the candidate that SPEC 4.4 chooses, a sweep follows, and the fall is the length before less the length after
  pub chosen : (x y : ℤ) (fall : ℕ) → (called d call.one_round).reply ≡ reply.Tap x y fall → Chosen d.tail (points (state_of d)) (point x y)
  pub swept : (x y : ℤ) (fall : ℕ) → (called d call.one_round).reply ≡ reply.Tap x y fall
      → SweptTo (with_steiner (point x y) (state_of d)) (state_of (called d call.one_round).next)
  pub falls : (x y : ℤ) (fall before after : ℕ) → (called d call.one_round).reply ≡ reply.Tap x y fall
      → asked d of_length ≡ Length before → asked (called d call.one_round).next of_length ≡ Length after → after + fall ≡ before

-- A pin that joins or leaves (SPEC 4.2, 4.3), and the sweep that follows (SPEC 4.1).
pub record SweepsOf (d : Deck) : Type 0 where
  pub added : (p : Point) (k : ℕ) → (called d (call.add p k)).reply ≡ reply.Done → SweptTo (with_pin p (state_of d)) (state_of (called d (call.add p k)).next)
  pub withdrawn : (p : Point) → (called d (call.withdraw p)).reply ≡ reply.Done
      → SweptTo (without_pin p (state_of d)) (state_of (called d (call.withdraw p)).next)

-- A run to the end answers k exactly if k rounds alone add a tap and the next is finished; it hands back the deck that they lead to
-- (SPEC 4.5).
pub record EndOf (d : Deck) : Type 0 where
  pub counts : (k : ℕ) → ((called d call.run_to_end).reply ≡ reply.Rounds k) ↔ ((e : Deck) × DeckRoundsTo d k e)
  pub leads : (k : ℕ) (e : Deck) → DeckRoundsTo d k e → (called d call.run_to_end).next ≡ e
