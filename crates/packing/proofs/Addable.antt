-- Additions one after the other are all done exactly if each could be done alone, no two are at one place, and there is room for all of them; which
-- does not depend on their order. By recursion over them: an addition takes its own place and no other, and one place of the room.
use mathlib.Core.Path.{◌≡◌, refl, sym, ap, ◌∙◌, subst⁻¹}
use mathlib.Core.Logic.{◌↔◌, ◌⊎◌, inl, inr, ⊎_elim}
use mathlib.Core.List.Memᴰ.{head}
use mathlib.Core.List.Memᴰ.{tail}
use mathlib.Core.List.{List, [], ◌∷◌, Memᴰ}
use mathlib.Core.List.Memᴰ.{cases_cons as cases}
use mathlib.Core.List.Memᴰ.{not-nil}
use mathlib.Core.List.Permᴰ
use mathlib.Core.List.{Permᴰ as Permuted}
use Prim.Native.Nat.{ℕ, suc, ◌+◌, ◌≤◌}
use native.Mathlib.Omega.{arith}
use lib.Dec.{T, lt→ltb}
use lib.ListN.{length}
use Rattle.arrays.specs.Order.{Sorted}
use Rattle.arrays.specs.Set.{put, Each}
use Rattle.arrays.proofs.Members.{sorted_ext}
use Rattle.arrays.proofs.Set.{put_in, put-sorted, put-length, has_not}
use Rattle.plane.specs.Point.{Point, in_range, lower}
use Rattle.plane.proofs.Order.{lower-order}
use Rattle.model.specs.DeviceKinds.{is_kind}
use Rattle.model.specs.State.{max_pins}
use Rattle.model.specs.Contents.{Contents, ValidContents}
use Rattle.model.specs.Call.{Call, add, withdraw, one_round, run_to_end, set_tail, done, add_checks, step}
use Rattle.model.specs.Refusal.{Pass}
use Rattle.model.proofs.Refusal.{add-taken}
use Rattle.model.proofs.Step.{step-valid}
use Rattle.packing.specs.Claim.{AllDone}
use Rattle.arrays.proofs.Permuted.{permuted_in, permuted_length, permuted_pairs}
use Rattle.packing.proofs.SamePins.{IsAdd, now_pins}

-- A call that adds a device, of a kind and in range, where no pin stands.
abbrev Fits : Contents → Call → Type 0
Fits c (add p k) = T (in_range p) × T (is_kind k) × ¬ Memᴰ p c.state.pins
Fits c (withdraw p) = ⊥
Fits c one_round = ⊥
Fits c run_to_end = ⊥
Fits c (set_tail t) = ⊥

-- Two calls do not add at one place.
abbrev Apart : Call → Call → Type 0
Apart a b = (p : Point) (k l : ℕ) → a ≡ add p k → b ≡ add p l → ⊥

pub record Addable (c : Contents) (calls : List Call) : Type 0 where
  fit : (a : Call) → Memᴰ a calls → Fits c a
  apart : Sorted Apart calls
  room : length c.state.pins + length calls ≤ max_pins

-- Another order of the calls.
pub addable_permuted : (c : Contents) {k l : List Call} → Permuted k l → Addable c k → Addable c l
addable_permuted c d h =
    record {
      fit = λ a i. h.fit a (permuted_in (Permᴰ.symm d) i);
      apart = permuted_pairs Apart (λ a b f p m n e g. f p n m g e) d h.apart;
      room = omega (arith, h.room, permuted_length d);
    }

-- One addition that is done.
module _ (c : Contents) (v : ValidContents c) (p : Point) (k : ℕ) (e : (step c (add p k)).reply ≡ done) where
  abbrev next : Contents
  next = (step c (add p k)).next

  passed : Pass (add_checks p k c.state)
  passed = (add-taken c p k).0 e

  free : ¬ Memᴰ p c.state.pins
  free = (has_not lower lower-order p c.state.pins).0 passed.1.1.0

  now : (q : Point) → Memᴰ q next.state.pins ↔ ((q ≡ p) ⊎ Memᴰ q c.state.pins)
  now = now_pins c v p k e

  one_more : length next.state.pins ≡ suc (length c.state.pins)
  one_more = ap length pins ∙ put-length lower lower-order p c.state.pins free
    where
      pins : next.state.pins ≡ put lower p c.state.pins
      pins =
          sorted_ext lower-order _ _ (step-valid c (add p k) v).state.placed.pins_rise
          (put-sorted lower lower-order p c.state.pins v.state.placed.pins_rise)
          (λ q i. (put_in lower lower-order p q c.state.pins).1 ((now q).0 i)) (λ q i. (now q).1 ((put_in lower lower-order p q c.state.pins).0 i))

  -- What could be done after it could be done before, and is at another place; and the other way round.
  before : (a : Call) → Fits next a → Fits c a × Apart (add p k) a
  before (add q l) h = (
    (h.0, h.1, λ i. h.2 ((now q).1 (inr i))),
    λ u m n f g. let one : p ≡ u = cc in let two : q ≡ u = cc in h.2 ((now q).1 (inl (two ∙ sym one))),
  )
  before (withdraw q) h = absurd h
  before one_round h = absurd h
  before run_to_end h = absurd h
  before (set_tail t) h = absurd h

  after : (a : Call) → Fits c a → Apart (add p k) a → Fits next a
  after (add q l) h f =
      (h.0, h.1, λ i. ⊎_elim (λ g. f p k l refl (ap (λ (u : Point). add u l) g)) h.2 ((now q).0 i))
  after (withdraw q) h f = h
  after one_round h f = h
  after run_to_end h f = h
  after (set_tail t) h f = absurd h

  in_front : (calls : List Call) → Addable next calls → Addable c (add p k ∷ calls)
  in_front calls h =
      record {
        fit = λ a i. ⊎_elim (λ f. subst⁻¹ (Fits c) f (passed.0, passed.1.0, free)) (λ j. (before a (h.fit a j)).0) (cases i);
        apart = (λ a i. (before a (h.fit a i)).1, h.apart);
        room = omega (arith, h.room, one_more);
      }

  behind : (calls : List Call) → Addable c (add p k ∷ calls) → Addable next calls
  behind calls h =
      record {
        fit = λ a i. after a (h.fit a (tail i)) (h.apart.0 a i);
        apart = h.apart.1;
        room = omega (arith, h.room, one_more);
      }

pub done_addable : (calls : List Call) → Each IsAdd calls → (c : Contents) → ValidContents c → AllDone c calls → Addable c calls
done_addable [] a c v h = record { fit = λ b i. absurd (not-nil i); apart = tt; room = omega (arith, v.state.few) }
done_addable (add p k ∷ ks) a c v h =
    in_front c v p k h.0 ks (done_addable ks a.1 (step c (add p k)).next (step-valid c (add p k) v) h.1)
done_addable (withdraw p ∷ ks) a c v h = absurd a.0
done_addable (one_round ∷ ks) a c v h = absurd a.0
done_addable (run_to_end ∷ ks) a c v h = absurd a.0
done_addable (set_tail t ∷ ks) a c v h = absurd a.0

pub addable_done : (calls : List Call) → (c : Contents) → ValidContents c → Addable c calls → AllDone c calls
addable_done [] c v h = tt
addable_done (add p k ∷ ks) c v h =
    let f = h.fit (add p k) (head refl) in
    let e = (add-taken c p k).1 (
      f.0,
      (f.1, ((has_not lower lower-order p c.state.pins).1 f.2, (lt→ltb (length c.state.pins) max_pins (omega (arith, h.room)), tt))),
    ) in
    (e, addable_done ks (step c (add p k)).next (step-valid c (add p k) v) (behind c v p k e ks h))
addable_done (withdraw p ∷ ks) c v h = absurd (h.fit (withdraw p) (head refl))
addable_done (one_round ∷ ks) c v h = absurd (h.fit one_round (head refl))
addable_done (run_to_end ∷ ks) c v h = absurd (h.fit run_to_end (head refl))
addable_done (set_tail t ∷ ks) c v h = absurd (h.fit (set_tail t) (head refl))
