-- The kinds follow their pins. After a change the kind at a pin is the one looked up in the contents before it: that of the pin if it was there,
-- else the kind given (`following`). Rounds leave pins and kinds.
use mathlib.Core.Path.{◌≡◌, refl, ap, ◌∙◌, subst, subst⁻¹}
use mathlib.Core.Logic.{inl, inr}
use mathlib.Core.Option.{Option, none, some}
use mathlib.Core.List.{List, Memᴰ}
use Prim.Native.Nat.{ℕ}
use native.Mathlib.Omega.{arith}
use Rattle.arrays.specs.Beside.{beside}
use Rattle.arrays.specs.Set.{put, out}
use Rattle.arrays.proofs.Beside.{beside-each, beside_none, beside_member}
use Rattle.arrays.proofs.Set.{put_in, out_in}
use Rattle.plane.specs.Point.{Point, lower}
use Rattle.plane.proofs.Order.{lower-order}
use Rattle.model.specs.State.{State, with_pin, without_pin, insert, remove}
use Rattle.model.specs.DeviceKinds.{sensor}
use Rattle.model.specs.Contents.{Contents, kind_or, kind_at, with_tail, keeping, following, ValidContents}
use Rattle.model.specs.Call.{Call, add, withdraw, one_round, run_to_end, set_tail, done, refused}
use Rattle.model.specs.Call.{insert_refusal, remove_refusal, tail_refusal, unless, step}
use Rattle.model.specs.KindsFollow.{SamePins, KindsFollow}
use Rattle.model.proofs.Prune.{prune-leaves}
use Rattle.model.proofs.Refusal.{unless-done, unless-next, unless-kept}
use Rattle.model.proofs.Round.{round-pins, finish-rounds, rounds-pins}
use Rattle.model.proofs.Step.{Allowed, insert_allowed, with_pin-placed}

module _ (c : Contents) (v : ValidContents c) where
  abbrev s : State
  s = c.state

  -- The kind at a pin of contents that follow is the one looked up before.
  looked_up : (k : ℕ) (r : State) (q : Point) → Memᴰ q r.pins → kind_at (following k c r) q ≡ kind_or k c q
  looked_up k r q i = beside-each lower lower-order (kind_or k c) sensor q r.pins i

  own : (k : ℕ) (q : Point) → Memᴰ q s.pins → kind_or k c q ≡ kind_at c q
  own k q i = beside_member lower lower-order k sensor q s.pins c.kinds v.kind_count i

  module _ (p : Point) (k : ℕ) (e : (step c (add p k)).reply ≡ done) where
    next_is : (step c (add p k)).next ≡ following k c (insert p s)
    unfolding step
    next_is = unless-next (insert_refusal p k s) c (λ _. following k c (insert p s)) e

    allowed : Allowed p k s
    unfolding step
    allowed = insert_allowed p k s ((unless-done (insert_refusal p k s) c (λ _. following k c (insert p s))).0 e)

    pins-after : (insert p s).pins ≡ put lower p s.pins
    unfolding insert
    pins-after =
        let h = with_pin-placed p s v.state.placed allowed.range in
        (prune-leaves (with_pin p s) h.steiner_rise h.apart).pins

    -- The kind at a pin that is there after the call.
    at : (q : Point) → Memᴰ q (put lower p s.pins) → kind_at (step c (add p k)).next q ≡ kind_or k c q
    at q i =
        ap (λ (d : Contents). kind_at d q) next_is
        ∙ looked_up k (insert p s) q (subst⁻¹ (λ (l : List Point). Memᴰ q l) pins-after i)

    added_kind : kind_at (step c (add p k)).next p ≡ k
    added_kind =
        at p ((put_in lower lower-order p p s.pins).1 (inl refl))
        ∙ beside_none lower lower-order k p s.pins c.kinds allowed.free

    other_kind : (q : Point) → Memᴰ q s.pins → kind_at (step c (add p k)).next q ≡ kind_at c q
    other_kind q i = at q ((put_in lower lower-order p q s.pins).1 (inr i)) ∙ own k q i

  module _ (p : Point) (e : (step c (withdraw p)).reply ≡ done) where
    left_is : (step c (withdraw p)).next ≡ following sensor c (remove p s)
    unfolding step
    left_is = unless-next (remove_refusal p s) c (λ _. following sensor c (remove p s)) e

    pins-left : (remove p s).pins ≡ out lower p s.pins
    unfolding remove
    pins-left =
        (prune-leaves (without_pin p s) v.state.placed.steiner_rise
        (λ q j k. v.state.placed.apart q ((out_in lower lower-order p q s.pins).0 j).0 k)).pins

    left_kind : (q : Point) → Memᴰ q (step c (withdraw p)).next.state.pins → kind_at (step c (withdraw p)).next q ≡ kind_at c q
    left_kind q i =
        let j = subst (λ (d : Contents). Memᴰ q d.state.pins) left_is i in
        let held = ((out_in lower lower-order p q s.pins).0 (subst (λ (l : List Point). Memᴰ q l) pins-left j)).0 in
        ap (λ (d : Contents). kind_at d q) left_is ∙ looked_up sensor (remove p s) q j ∙ own sensor q held

  -- Contents with another state of the same pins.
  same_pins : (r : State) → r.pins ≡ s.pins → SamePins c (keeping c r)
  same_pins r e = record { pins = e; kinds = λ q. ap (λ (l : List Point). beside lower sensor q l c.kinds) e }

  kept : (d : Contents) → d ≡ c → SamePins c d
  kept d e = subst⁻¹ (SamePins c) e (record { pins = refl; kinds = λ q. refl })

  turned_down_lem : (k : Call) (n : ℕ) → (step c k).reply ≡ refused n → SamePins c (step c k).next
  unfolding step
  turned_down_lem (add p k) n e = kept _ (unless-kept (insert_refusal p k s) c (λ _. following k c (insert p s)) n e)
  turned_down_lem (withdraw p) n e = kept _ (unless-kept (remove_refusal p s) c (λ _. following sensor c (remove p s)) n e)
  turned_down_lem one_round n e = let z : ◌≡◌ {A = ℕ} 0 1 = cc in absurd (omega arith)
  turned_down_lem run_to_end n e = let z : ◌≡◌ {A = ℕ} 0 1 = cc in absurd (omega arith)
  turned_down_lem (set_tail tail) n e = kept _ (unless-kept (tail_refusal tail) c _ n e)

  tail-set : (o : Option ℕ) (tail : ℕ) → SamePins c (unless o c (λ _. with_tail tail c)).next
  tail-set none tail = record { pins = refl; kinds = λ q. refl }
  tail-set (some n) tail = kept c refl

  pub kinds-follow : KindsFollow c
  unfolding step
  kinds-follow =
      record {
        added = added_kind;
        besides = other_kind;
        left = left_kind;
        rounded = same_pins _ (round-pins c.tail s v.state);
        ended = same_pins _ (rounds-pins (finish-rounds c.tail s v.state).0 v.state);
        set = λ tail. tail-set (tail_refusal tail) tail;
        turned_down = turned_down_lem;
      }
