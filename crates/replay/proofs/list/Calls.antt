-- Calls made one after the other: each is the one that its twelve bytes say, and one more of a list follows from those before it.
use mathlib.Core.Path.{◌≡◌, refl, sym, ap, ◌∙◌}
use mathlib.Core.List.{List, [], ◌∷◌, ◌++◌}
use Prim.Native.Nat.{ℕ, ◌+◌, ◌*◌, ◌≤◌}
use native.Mathlib.Numerals.{add-one}
use native.Mathlib.Omega.{arith}
use lib.IntN.{ℤ}
use lib.ListN.{get_or}
use borrow.Author.Tests.{ne_eqb}
use Rattle.plane.specs.Point.{Point}
use Rattle.model.specs.Call.{Call}
use Rattle.arrays.specs.Number.{number4}
use Rattle.deck.specs.declared.Deck.{Deck}
use Rattle.deck.specs.declared.Outcome.{Outcome}
use Rattle.deck.specs.Calls.{called}
use Rattle.deck.specs.Session.{deck_after}
use Rattle.replay.specs.Calls.{signed32, signed_point, call_of, call_at, first_calls}

-- The call of the number k, on the deck d.
module _ (d : Deck) {o : Outcome} {n k : ℕ} (is : n ≡ k) (kind u v : ℕ) where
  pub one_call : {c : Call} → call_of k kind u v ≡ c ∷ [] → o ≡ called d c → o.next ≡ deck_after d (call_of n kind u v)
  unfolding deck_after
  one_call f e = ap (λ (z : Outcome). z.next) e ∙ sym (ap (deck_after d) (ap (λ (m : ℕ). call_of m kind u v) is ∙ f))

  -- That of a call at a point, whose numbers are read back from their bits.
  pub point_call : (call : Point → Call) (x y : ℤ) → x ≡ signed32 u → y ≡ signed32 v → call_of k kind u v ≡ call (signed_point u v) ∷ []
      → o ≡ called d (call (record { x = x; y = y })) → o.next ≡ deck_after d (call_of n kind u v)
  point_call call x y ex ey f e = one_call f (e ∙ (λ i. called d (call (record { x = ex i; y = ey i }))))

pub no_call : (d : Deck) (n kind u v : ℕ) → ¬ (n ≡ 0) → ¬ (n ≡ 1) → ¬ (n ≡ 2) → ¬ (n ≡ 3) → ¬ (n ≡ 4) → d ≡ deck_after d (call_of n kind u v)
unfolding deck_after call_of
no_call d n kind u v a b c e f = rw (ne_eqb n 0 a, ne_eqb n 1 b, ne_eqb n 2 c, ne_eqb n 3 e, ne_eqb n 4 f)

-- The call in the twelve bytes from place i on.
pub call_read : (d : Deck) (l : List ℕ) (i : ℕ) {u v : ℕ} → u ≡ number4 l (i + 4) → v ≡ number4 l (i + 8)
    → deck_after d (call_of (get_or l i 0) (get_or l (i + 1) 0) u v) ≡ deck_after d (call_at l i)
unfolding call_at
call_read d l i e f = λ k. deck_after d (call_of (get_or l i 0) (get_or l (i + 1) 0) (e k) (f k))

-- One call more of a list.
after_both : (l m : List Call) (d : Deck) → deck_after d (l ++ m) ≡ deck_after (deck_after d l) m
unfolding deck_after
after_both [] m d = refl
after_both (c ∷ l) m d = after_both l m (called d c).next

pub one_more : (l : List ℕ) (d : Deck) {next then : Deck} (i : ℕ) → next ≡ deck_after d (first_calls i l)
    → then ≡ deck_after next (call_at l (i * 12)) → then ≡ deck_after d (first_calls (i + 1) l)
unfolding first_calls
one_more l d i r e =
    rw add-one (e ∙ ap (λ (z : Deck). deck_after z (call_at l (i * 12))) r ∙ sym (after_both (first_calls i l) (call_at l (i * 12)) d))
