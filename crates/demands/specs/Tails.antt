-- The tail of a deck (SPEC 1.6, 4.8), as claims on what a sound deck answers: setting it, which changes nothing else, and what tails leave as it was.
use Rattle.std.specs.Prelude.{◌≡◌, ◌↔◌, ℕ, ◌+◌, ◌*◌, ◌-◌, ◌≤◌, length}
use Rattle.model.specs.State.{points}
use Rattle.model.specs.Tree.{tree_length}
use Rattle.model.specs.TailClaim.{SetsNoTail, Tails}
use Rattle.model.specs.Call as call
use Rattle.calls.specs.declared.Reply.TheVariants as reply
use Rattle.questions.specs.declared.Answer.TheVariants.{Length}
use Rattle.questions.specs.Answers.{of_length}
use Rattle.deck.specs.declared.Deck.{Deck}
use Rattle.deck.specs.Form.{state_of, tailed_deck}
use Rattle.deck.specs.Calls.{called}
use Rattle.deck.specs.Questions.{asked}

pub record DeckTails (d : Deck) : Type 0 where
  -- a sound deck has one of at most 500
  pub most : d.tail ≤ 500
  -- setting it: 16 exactly above 500, else done, and then the tail is another and every other place the same
  pub too_long : (tail : ℕ) → ((called d (call.set_tail tail)).reply ≡ reply.Refused 16) ↔ (501 ≤ tail)
  pub done : (tail : ℕ) → ((called d (call.set_tail tail)).reply ≡ reply.Done) ↔ (tail ≤ 500)
  pub set : (tail : ℕ) → tail ≤ 500 → (called d (call.set_tail tail)).next ≡ tailed_deck d tail
  -- every other call keeps it
  pub kept : (c : call.Call) → SetsNoTail c → (called d c).next.tail ≡ d.tail
  -- the length: the distances of the tree together, and two tails for each run, of which there is one less than points
  pub measured : asked d of_length ≡ Length (tree_length (points (state_of d)) + 2 * d.tail * (length (points (state_of d)) - 1))
  -- the order of runs and THE tree of points are those without tails
  pub leaves : Tails d.tail
