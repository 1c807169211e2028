-- Lists of calls on decks (SPEC 6), each made on the deck of the one before.
use Rattle.std.specs.Prelude.{◌≡◌, List, [], ◌∷◌, ℕ, suc, ℤ}
use Rattle.model.specs.Contents.{Contents}
use Rattle.model.specs.Call as call
use Rattle.deck.specs.declared.Deck.{Deck}
use Rattle.calls.specs.declared.Reply.{Reply}
use Rattle.calls.specs.declared.Reply.TheVariants.{Finished, Tap}
use Rattle.calls.specs.Changes.{reply_of}
use Rattle.deck.specs.Calls.{called}

-- The deck after a list of calls, and their replies. `called` is what each method of the deck answers, for every deck handed in.
unfoldable pub deck_after : Deck → List call.Call → Deck
deck_after d [] = d
deck_after d (c ∷ cs) = deck_after (called d c).next cs

unfoldable pub replies : Deck → List call.Call → List Reply
replies d [] = []
replies d (c ∷ cs) = (called d c).reply ∷ replies (called d c).next cs

-- The replies by the points reckoned (SPEC 6.1, 6.2).
unfoldable pub reckoned : Contents → List call.Call → List Reply
reckoned c [] = []
reckoned c (k ∷ ks) = reply_of (call.step c k).reply ∷ reckoned (call.step c k).next ks

-- Rounds alone lead from d to e, where the round answers finished (SPEC 6.4). k of them add a tap, and one that its own sweep takes out
-- counts.
pub data DeckRoundsTo : Deck → ℕ → Deck → Type 0 where
  ended : {d : Deck} → (called d call.one_round).reply ≡ Finished → DeckRoundsTo d 0 d
  added : {d e : Deck} {k : ℕ} {x y : ℤ} {fall : ℕ} → (called d call.one_round).reply ≡ Tap x y fall
      → DeckRoundsTo (called d call.one_round).next k e → DeckRoundsTo d (suc k) e
