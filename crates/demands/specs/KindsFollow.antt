-- The kinds of a deck's pins follow them (SPEC 4.2 to 4.5, 4.8), as claims on the kind at a point of the deck that each call leaves.
use Rattle.std.specs.Prelude.{◌≡◌, ℕ, ◌≤◌}
use mathlib.Core.List.{Memᴰ}
use Rattle.plane.specs.Point.{Point}
use Rattle.model.specs.Contents.{kind_at}
use Rattle.model.specs.Call as call
use Rattle.calls.specs.declared.Reply.TheVariants as reply
use Rattle.deck.specs.declared.Deck.{Deck}
use Rattle.deck.specs.Form.{contents_of, state_of}
use Rattle.deck.specs.Calls.{called}

-- The kind of the pin at a point.
abbrev pub kind_in : Deck → Point → ℕ
kind_in d p = kind_at (contents_of d) p

-- The pins of e are those of d, each of the same kind.
pub record SameDevices (d e : Deck) : Type 0 where
  pub pins : (state_of e).pins ≡ (state_of d).pins
  pub kinds : (q : Point) → kind_in e q ≡ kind_in d q

pub record DeckKinds (d : Deck) : Type 0 where
  -- every pin is a sensor, a display or a lane controller
  pub known : (q : Point) → Memᴰ q (state_of d).pins → kind_in d q ≤ 2
  -- a pin added, also where a tap stood, has the kind given, and every other pin its own
  pub added : (p : Point) (k : ℕ) → (called d (call.add p k)).reply ≡ reply.Done → kind_in (called d (call.add p k)).next p ≡ k
  pub besides : (p : Point) (k : ℕ) → (called d (call.add p k)).reply ≡ reply.Done → (q : Point) → Memᴰ q (state_of d).pins
      → kind_in (called d (call.add p k)).next q ≡ kind_in d q
  -- every pin that a withdrawal leaves keeps its own
  pub left : (p : Point) → (called d (call.withdraw p)).reply ≡ reply.Done → (q : Point)
      → Memᴰ q (state_of (called d (call.withdraw p)).next).pins → kind_in (called d (call.withdraw p)).next q ≡ kind_in d q
  -- a round, a run to the end, setting the tail and a refused call keep all
  pub rounded : SameDevices d (called d call.one_round).next
  pub ended : SameDevices d (called d call.run_to_end).next
  pub set : (tail : ℕ) → SameDevices d (called d (call.set_tail tail)).next
  pub turned_down : (c : call.Call) (n : ℕ) → (called d c).reply ≡ reply.Refused n → SameDevices d (called d c).next
