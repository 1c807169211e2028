-- What the parts of a line's answer leave: the text stands at the front of the slice, which has room for every answer.
use mathlib.Core.Path.{◌≡◌, subst}
use mathlib.Core.List.{List}
use Prim.Native.Nat.{ℕ, ◌≤◌}
use native.Mathlib.Omega.{arith}
use lib.ListN.{length, take, replicate, length-replicate}
use Rattle.arrays.specs.Paste.{Pasted}
use Rattle.arrays.proofs.paste.Parts.{front-take, front-whole, front-within}
use Rattle.deck.specs.declared.Deck.{Deck}
use Rattle.ascii.specs.Text.{fitting}
use Rattle.ascii.proofs.Room.{front_fits}
use Rattle.answer.specs.declared.Played.{Played}
use Rattle.answer.specs.Play.{Line, Plays}

-- A text that takes at most the room there is.
pub plays : (a : Line) (room : ℕ) (before after text : List ℕ) (d : Deck) (r : ℕ) → room ≤ 26112 → 26112 ≤ length before → d ≡ a.next → text ≡ a.text
    → Pasted (fitting room before text) before after 0 r → Plays a before after (record { next = d; size = r })
plays a room before after text d r h k n e f =
    let g = front_fits room before after text r (omega arith) f in
    record {
      next = n;
      front = subst (λ (t : List ℕ). Pasted t before after 0 r) e g;
      counts = front-within g;
    }

-- The same answer by another name.
pub plays_same : (a b : Line) (before after : List ℕ) (r : Played) → a ≡ b → Plays a before after r → Plays b before after r
plays_same a b before after r e p = subst (λ (z : Line). Plays z before after r) e p

-- The bytes of a file in an array of 1,000.
pub filled-file : (l after : List ℕ) (r : ℕ) → Pasted (take (length {A = ℕ} (replicate 2000 0)) l) (replicate 2000 0) after 0 r
    → length l ≤ 2000 → take r after ≡ l
filled-file l after r f h = front-take (front-whole f (omega (arith, h, length-replicate {A = ℕ} 2000 0)))
