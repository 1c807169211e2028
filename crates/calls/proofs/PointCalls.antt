-- What adding and withdrawing leave and reply, case by case: the tests of the program are those of the model.
use mathlib.Core.Path.{◌≡◌, refl, sym, ap, ◌∙◌, subst, subst⁻¹}
use mathlib.Core.Bool.{Bool, true, false, not}
use mathlib.Core.Option.{Option}
use mathlib.Core.List.{[], ◌∷◌}
use Prim.Native.Nat.{ℕ, ◌≤◌, ◌<◌}
use lib.Dec.{T, ltb}
use lib.ListN.{length, take}
use borrow.Author.Tests.{le-leb, lt-leb, le-ltb, lt-ltb}
use Rattle.plane.specs.Point.{Point, in_range, lower}
use Rattle.plane.proofs.Order.{lower-order}
use Rattle.arrays.specs.Set.{has}
use Rattle.model.specs.Refusal.{check, first_failed}
use Rattle.model.specs.State.{State, Placed, max_pins, insert, remove}
use Rattle.model.specs.DeviceKinds.{sensor, is_kind}
use Rattle.model.specs.Contents.{Contents, following}
use Rattle.model.specs.Call as call
use Rattle.arrays.proofs.Set.{has_in}
use Rattle.working.specs.declared.Working.{Working}
use Rattle.working.specs.declared.deck.WorkingDeck.{WorkingDeck}
use Rattle.plane.specs.Code.{point_of, is_code}
use Rattle.working.specs.InOrder.{state_of}
use Rattle.working.specs.WorkingDeck.{contents_of}
use Rattle.points.proofs.Coded.{pins-count}
use Rattle.plane.proofs.codes.Points.{code-in_range}
use Rattle.plane.proofs.codes.Sets.{points_has}
use Rattle.arrays.proofs.Test.{true_of, false_of}
use Rattle.calls.specs.declared.Changed.{Changed}
use Rattle.calls.specs.declared.Reply.TheVariants.{Done}
use Rattle.calls.specs.Changes.{reply_of, refusing, ChangedBy}

-- A call that the model refuses leaves the deck, and one that it carries out leads to the model's next contents.
pub refused_is : (d : WorkingDeck) (c : call.Call) (n : ℕ)
    → call.step (contents_of d) c ≡ record { next = contents_of d; reply = call.refused n }
    → (r : Changed) → r ≡ refusing d n → ChangedBy d c r
unfolding reply_of
refused_is d c n e r is =
    subst⁻¹ (ChangedBy d c) is
    (record { in_order = d.form.in_order; next = ap (λ (o : call.Outcome). o.next) (sym e); reply = ap (λ (o : call.Outcome). reply_of o.reply) (sym e) })

pub done_is : (d : WorkingDeck) (c : call.Call) (k : ℕ) (w : Working) (s : State) → state_of w ≡ s
    → (r : WorkingDeck) → (r.form ≡ w) × (contents_of r ≡ following k (contents_of d) (state_of w))
    → call.step (contents_of d) c ≡ record { next = following k (contents_of d) s; reply = call.done }
    → ChangedBy d c (record { working = r; reply = Done })
unfolding reply_of
done_is d c k w s p r q e =
    record {
      in_order = r.form.in_order;
      next = q.1 ∙ ap (following k (contents_of d)) p ∙ ap (λ (o : call.Outcome). o.next) (sym e);
      reply = ap (λ (o : call.Outcome). reply_of o.reply) (sym e);
    }

-- The same call by equal points.
pub by_point : (d : WorkingDeck) (f : Point → call.Call) (p q : Point) → p ≡ q → (r : Changed) → ChangedBy d (f p) r → ChangedBy d (f q) r
by_point d f p q e r c = subst (λ (z : Point). ChangedBy d (f z) r) e c

pub in_range_lem : (k : ℕ) → T (is_code k) → in_range (point_of k) ≡ true
in_range_lem k t = true_of (in_range (point_of k)) (code-in_range k t)

module _ (p : Point) (c : Contents) where
  abbrev s : State
  s = c.state

  -- Adding, by the four tests in turn.
  module _ (k : ℕ) where
    choice : Bool → Bool → Bool → Bool → Option ℕ
    choice x y z u = first_failed (check 7 (λ _. x) ∷ check 15 (λ _. y) ∷ check 8 (λ _. not z) ∷ check 10 (λ _. u) ∷ [])

    refusal_is : {x y z u : Bool} → in_range p ≡ x → is_kind k ≡ y → call.holds_pin p s ≡ z → ltb (length s.pins) max_pins ≡ u
        → call.insert_refusal p k s ≡ choice x y z u
    unfolding call.insert_refusal choice
    refusal_is e h f g = λ i. choice (e i) (h i) (f i) (g i)

    adding : Option ℕ → call.Outcome
    adding o = call.unless o c (λ _. following k c (insert p s))

    pub add-out : in_range p ≡ false → call.step c (call.add p k) ≡ record { next = c; reply = call.refused 7 }
    unfolding call.step adding choice first_failed
    add-out e = ap adding (refusal_is e refl refl refl)

    pub add-no_kind : in_range p ≡ true → 2 < k → call.step c (call.add p k) ≡ record { next = c; reply = call.refused 15 }
    unfolding call.step adding choice first_failed
    add-no_kind e h = ap adding (refusal_is e (lt-leb k 2 h) refl refl)

    module _ (e : in_range p ≡ true) (h : k ≤ 2) where
      pub add-there : call.holds_pin p s ≡ true → call.step c (call.add p k) ≡ record { next = c; reply = call.refused 8 }
      unfolding call.step adding choice first_failed
      add-there f = ap adding (refusal_is e (le-leb k 2 h) f refl)

      pub add_full : call.holds_pin p s ≡ false → 64 ≤ length s.pins → call.step c (call.add p k) ≡ record { next = c; reply = call.refused 10 }
      unfolding call.step adding choice first_failed
      add_full f g = ap adding (refusal_is e (le-leb k 2 h) f (le-ltb (length s.pins) 64 g))

      pub add_done : call.holds_pin p s ≡ false → length s.pins < 64
          → call.step c (call.add p k) ≡ record { next = following k c (insert p s); reply = call.done }
      unfolding call.step adding choice first_failed
      add_done f g = ap adding (refusal_is e (le-leb k 2 h) f (lt-ltb (length s.pins) 64 g))

  -- Withdrawing.
  withdrawing : Bool → call.Outcome
  withdrawing b = call.unless (first_failed (check 9 (λ _. b) ∷ [])) c (λ _. following sensor c (remove p s))

  pub withdraw_none : call.holds_pin p s ≡ false → call.step c (call.withdraw p) ≡ record { next = c; reply = call.refused 9 }
  unfolding call.step call.remove_refusal withdrawing first_failed
  withdraw_none e = ap withdrawing e

  pub withdraw-done : call.holds_pin p s ≡ true → call.step c (call.withdraw p) ≡ record { next = following sensor c (remove p s); reply = call.done }
  unfolding call.step call.remove_refusal withdrawing first_failed
  withdraw-done e = ap withdrawing e

  -- No pin stands out of range.
  pub none_outside : Placed s → in_range p ≡ false → call.holds_pin p s ≡ false
  none_outside v e = false_of (call.holds_pin p s) (λ t. subst T e (v.pins_range p ((has_in lower lower-order p s.pins).0 t)))

-- What a working form says of its pins.
module _ (w : Working) where
  pub pin_there_lem : (k : ℕ) → T (is_code k) → has ltb k (take w.points.npins w.points.pins) ≡ call.holds_pin (point_of k) (state_of w)
  pin_there_lem k t = points_has k t (take w.points.npins w.points.pins) w.in_order.arranged.pin_codes.codes

  pub pin_count_lem : w.points.npins ≡ length (state_of w).pins
  pin_count_lem = sym (pins-count w.points w.in_order.arranged)
