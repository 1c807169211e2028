-- Three pins and the half perimeter of the box around them (SPEC 6.6), as claims on what a deck without tails answers for its length.
use Rattle.std.specs.Prelude.{◌≡◌, ◌↔◌, ℕ, ◌≤◌, T}
use mathlib.Core.List.{List, [], ◌∷◌, ◌++◌, Memᴰ}
use Rattle.spanning.specs.Graph.{Tree}
use Rattle.plane.specs.Point.{Point, in_range, dist}
use Rattle.plane.specs.Edge.{Edge, planar}
use Rattle.plane.specs.Box.{half_perimeter, BoxAround}
use Rattle.model.specs.Tree.{length_of}
use Rattle.model.specs.DeviceKinds.{is_kind}
use Rattle.model.specs.Contents.{empty_contents}
use Rattle.model.specs.Call as call
use Rattle.calls.specs.declared.Reply.TheVariants as reply
use Rattle.questions.specs.declared.Answer.TheVariants.{Length}
use Rattle.questions.specs.Answers.{of_length}
use Rattle.deck.specs.declared.Deck.{Deck}
use Rattle.deck.specs.Form.{deck_of, state_of, Sound}
use Rattle.deck.specs.Calls.{called}
use Rattle.deck.specs.Questions.{asked}
use Rattle.deck.specs.Session.{deck_after}

-- The pins of a deck are p, q and r, in whatever order, and no others. Where two of these are the same point, the deck has fewer pins.
abbrev pub PinsAre : Deck → Point → Point → Point → Type 0
PinsAre d p q r = (u : Point) → Memᴰ u (state_of d).pins ↔ Memᴰ u (p ∷ q ∷ r ∷ [])

-- What a deck answers for its length is the half perimeter of the box around p, q and r.
abbrev pub LengthIsHalfPerimeter : Deck → Point → Point → Point → Type 0
LengthIsHalfPerimeter d p q r = asked d of_length ≡ Length (half_perimeter (p ∷ q ∷ r ∷ []))

-- The calls that add three devices, and then these calls.
abbrev pub adding : Point → Point → Point → ℕ → ℕ → ℕ → List call.Call → List call.Call
adding p q r i j k calls = call.add p i ∷ call.add q j ∷ call.add r k ∷ calls

-- The claims. Three points are asked to be in range only where they are added, and their kinds, which do not matter, to be kinds; none has to be
-- lower than another, nor different.
pub record ThreePins : Type 0 where
  -- three points that are added to an empty deck are its pins, and after a run to the end it has that length
  pub added : (p q r : Point) (i j k : ℕ) → T (in_range p) × T (is_kind i) → T (in_range q) × T (is_kind j) → T (in_range r) × T (is_kind k)
      → PinsAre (deck_after (deck_of empty_contents) (adding p q r i j k [])) p q r
  pub reached : (p q r : Point) (i j k : ℕ) → T (in_range p) × T (is_kind i) → T (in_range q) × T (is_kind j) → T (in_range r) × T (is_kind k)
      → LengthIsHalfPerimeter (deck_after (deck_of empty_contents) (adding p q r i j k (call.run_to_end ∷ []))) p q r
  -- no tree over points and any further points is shorter, be these out of range, repeated, or the same points again
  pub least : (ps further : List Point) (t : List Edge) → Tree planar (ps ++ further) t → half_perimeter ps ≤ length_of t
  -- every sound deck of these pins without tails, whatever taps a file or earlier calls left in it, has that length after a run to the end; a round on it is
  -- finished exactly if it has that length; and where it has no tap, it has that length after one round
  pub at_end : (d : Deck) → Sound d → d.tail ≡ 0 → (p q r : Point) → PinsAre d p q r → LengthIsHalfPerimeter (called d call.run_to_end).next p q r
  pub finished : (d : Deck) → Sound d → d.tail ≡ 0 → (p q r : Point) → PinsAre d p q r
      → ((called d call.one_round).reply ≡ reply.Finished) ↔ LengthIsHalfPerimeter d p q r
  pub after_one_round : (d : Deck) → Sound d → d.tail ≡ 0 → (p q r : Point) → PinsAre d p q r → (state_of d).steiner ≡ []
      → LengthIsHalfPerimeter (called d call.one_round).next p q r
  -- the half perimeter is that of the box around the points, by its corners, and there is such a box
  pub of_box : (ps : List Point) (low high : Point) → BoxAround ps low high → half_perimeter ps ≡ dist low high
  pub box : (p : Point) (ps : List Point) → (low : Point) × (high : Point) × BoxAround (p ∷ ps) low high
