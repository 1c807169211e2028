-- The tail of a deck, from the claims on contents: a call on a sound deck is the call on its contents, and two decks with the same contents but for
-- the tail differ in the tail alone.
use mathlib.Core.Path.{◌≡◌, sym, ap, ◌∙◌}
use mathlib.Core.Logic.{◌↔◌}
use Prim.Native.Nat.{ℕ, ◌+◌, ◌*◌, ◌-◌, ◌≤◌}
use lib.ListN.{length}
use Rattle.model.specs.State.{points}
use Rattle.model.specs.Tree.{mst, tree_length}
use Rattle.model.specs.Tail.{tree_length_with}
use Rattle.model.specs.Contents.{Contents, with_tail}
use Rattle.model.specs.Call as call
use Rattle.model.specs.CallRefusal.{TailRefusals}
use Rattle.model.proofs.CallRefusal.{tail-refusals}
use Rattle.model.proofs.Prune.{points-rise}
use Rattle.model.proofs.Refusal.{unless-next}
use Rattle.model.proofs.Tail.{length_with_lem}
use Rattle.model.proofs.TailClaim.{tails}
use Rattle.model.proofs.TailsFollow.{tails-follow}
use Rattle.model.proofs.Tree.{tree-edges}
use Rattle.calls.specs.declared.Reply.TheVariants as reply
use Rattle.calls.specs.Changes.{reply_of}
use Rattle.questions.specs.declared.Answer.TheVariants.{Length}
use Rattle.questions.specs.Answers.{of_length}
use Rattle.deck.specs.declared.Deck.{Deck}
use Rattle.deck.specs.Form.{deck_of, contents_of, state_of, tailed_deck, Sound}
use Rattle.deck.specs.Calls.{called}
use Rattle.demands.specs.Tails.{DeckTails}
use Rattle.demands.proofs.Replies.{done-reply, refused-reply}
use Rattle.demands.proofs.Method.{answered, next_is, reply_is, next-contents}

module _ (d : Deck) (s : Sound d) where
  -- What the call on the deck replies is what the call on its contents replies.
  refused_is : (tail n : ℕ) → ((called d (call.set_tail tail)).reply ≡ reply.Refused n) ↔
      ((call.step (contents_of d) (call.set_tail tail)).reply ≡ call.refused n)
  unfolding reply_of
  refused_is tail n = (
    λ e. refused-reply (call.step (contents_of d) (call.set_tail tail)).reply n (sym (reply_is d s (call.set_tail tail)) ∙ e),
    λ e. reply_is d s (call.set_tail tail) ∙ ap reply_of e,
  )

  done_is : (tail : ℕ) → ((called d (call.set_tail tail)).reply ≡ reply.Done) ↔ ((call.step (contents_of d) (call.set_tail tail)).reply ≡ call.done)
  unfolding reply_of
  done_is tail = (
    λ e. done-reply (call.step (contents_of d) (call.set_tail tail)).reply (sym (reply_is d s (call.set_tail tail)) ∙ e),
    λ e. reply_is d s (call.set_tail tail) ∙ ap reply_of e,
  )

  refusals : (tail : ℕ) → TailRefusals (contents_of d) tail
  refusals tail = tail-refusals (contents_of d) tail

  set : (tail : ℕ) → tail ≤ 500 → (called d (call.set_tail tail)).next ≡ tailed_deck d tail
  unfolding call.step deck_of
  set tail h =
      next_is d s (call.set_tail tail)
      ∙ ap deck_of (unless-next (call.tail_refusal tail) (contents_of d) (λ _. with_tail tail (contents_of d)) ((refusals tail).taken.1 h))
      ∙ ap (λ (e : Deck). tailed_deck e tail) (sym s.same)

  measured : tree_length_with d.tail (points (state_of d))
      ≡ tree_length (points (state_of d)) + 2 * d.tail * (length (points (state_of d)) - 1)
  unfolding tree_length_with tree_length
  measured =
      length_with_lem d.tail (mst (points (state_of d)))
      ∙ ap (λ (n : ℕ). tree_length (points (state_of d)) + 2 * d.tail * n)
      (tree-edges (points (state_of d)) (points-rise (state_of d) s.valid.state.placed.steiner_rise))

  pub deck-tails : DeckTails d
  deck-tails =
      record {
        most = s.valid.tailed;
        too_long = λ tail. (λ e. (refusals tail).too_long.0 ((refused_is tail 16).0 e), λ h. (refused_is tail 16).1 ((refusals tail).too_long.1 h));
        done = λ tail. (λ e. (refusals tail).taken.0 ((done_is tail).0 e), λ h. (done_is tail).1 ((refusals tail).taken.1 h));
        set = set;
        kept = λ c n. ap (λ (z : Contents). z.tail) (next-contents d s c) ∙ (tails-follow (contents_of d)).besides c n;
        measured = answered d s of_length ∙ ap Length measured;
        leaves = tails d.tail;
      }
