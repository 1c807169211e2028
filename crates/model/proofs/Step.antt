-- Every call keeps contents valid, refused ones too.
use mathlib.Core.Path.{◌≡◌, refl, subst⁻¹}
use mathlib.Core.Logic.{◌⊎◌, ⊎_elim}
use mathlib.Core.Option.{Option, none, some}
use mathlib.Core.List.{List, [], ◌∷◌, Memᴰ}
use Prim.Native.Nat.{ℕ, ◌≤◌, ◌<◌}
use native.Mathlib.Omega.{arith}
use lib.Dec.{T, leb→le, ltb→lt}
use lib.ListN.{length}
use Rattle.plane.specs.Point.{Point, in_range, lower}
use Rattle.plane.proofs.Order.{lower-order}
use Rattle.arrays.specs.Set.{out}
use Rattle.model.specs.State.{State, Placed, Valid, with_pin, insert, remove, max_pins}
use Rattle.model.specs.DeviceKinds.{sensor, largest_kind}
use Rattle.model.specs.Contents.{Contents, following, ValidContents}
use Rattle.model.specs.Tail.{longest_tail}
use Rattle.model.specs.Call.{add_checks, withdraw_checks, tail_checks, insert_refusal, remove_refusal, tail_refusal}
use Rattle.model.specs.Call.{Call, add, withdraw, one_round, run_to_end, set_tail, unless, step, contents_after}
use Rattle.arrays.proofs.Set.{put_in, put-sorted, put-length, out_in, out-sorted, out-length, has_in, has_not}
use Rattle.model.proofs.Prune.{prune-valid}
use Rattle.model.proofs.Refusal.{all_passed}
use Rattle.model.proofs.DeviceKinds.{keeping-valid, with_tail-valid, following-valid}
use Rattle.model.proofs.Round.{round-valid, round-pins, finish-rounds, rounds-valid, rounds-pins}

-- Adding is not refused: the point is in range, the kind is one, no pin stands there, and there is room.
pub record Allowed (p : Point) (k : ℕ) (s : State) : Type 0 where
  pub range : T (in_range p)
  pub kind : k ≤ largest_kind
  pub free : ¬ Memᴰ p s.pins
  pub room : length s.pins < max_pins

pub insert_allowed : (p : Point) (k : ℕ) (s : State) → insert_refusal p k s ≡ none → Allowed p k s
unfolding insert_refusal
insert_allowed p k s e =
    let a = (all_passed (add_checks p k s)).0 e in
    record {
      range = a.0;
      kind = leb→le k largest_kind a.1.0;
      free = (has_not lower lower-order p s.pins).0 a.1.1.0;
      room = ltb→lt (length s.pins) max_pins a.1.1.1.0;
    }

pub remove_allowed : (p : Point) (s : State) → remove_refusal p s ≡ none → Memᴰ p s.pins
unfolding remove_refusal
remove_allowed p s e = (has_in lower lower-order p s.pins).0 ((all_passed (withdraw_checks p s)).0 e).0

pub tail_allowed : (tail : ℕ) → tail_refusal tail ≡ none → tail ≤ longest_tail
unfolding tail_refusal
tail_allowed tail e = leb→le tail longest_tail ((all_passed (tail_checks tail)).0 e).0

pub with_pin-placed : (p : Point) (s : State) → Placed s → T (in_range p) → Placed (with_pin p s)
with_pin-placed p s h r =
    record {
      pins_range = λ q i. ⊎_elim (λ e. subst⁻¹ (λ z. T (in_range z)) e r) (h.pins_range q) ((put_in lower lower-order p q s.pins).0 i);
      steiner_range = λ q i. h.steiner_range q ((out_in lower lower-order p q s.steiner).0 i).0;
      pins_rise = put-sorted lower lower-order p s.pins h.pins_rise;
      steiner_rise = out-sorted lower lower-order p s.steiner h.steiner_rise;
      apart = λ q i j. let o = (out_in lower lower-order p q s.steiner).0 j in
          ⊎_elim (λ e. o.1 e) (λ k. h.apart q k o.0) ((put_in lower lower-order p q s.pins).0 i);
    }

pub insert-valid : (p : Point) (s : State) → Valid s → T (in_range p) → (Memᴰ p s.pins → ⊥) → length s.pins < max_pins → Valid (insert p s)
unfolding insert
insert-valid p s v r n room =
    prune-valid (with_pin p s) (omega (arith, put-length lower lower-order p s.pins n)) (with_pin-placed p s v.placed r)

pub remove-valid : (p : Point) (s : State) → Valid s → Memᴰ p s.pins → Valid (remove p s)
unfolding remove
remove-valid p s v i =
    prune-valid (record { pins = out lower p s.pins; steiner = s.steiner })
    (omega (arith, out-length lower lower-order p s.pins v.placed.pins_rise i, v.few))
    (record {
      pins_range = λ q j. v.placed.pins_range q ((out_in lower lower-order p q s.pins).0 j).0;
      steiner_range = v.placed.steiner_range;
      pins_rise = out-sorted lower lower-order p s.pins v.placed.pins_rise;
      steiner_rise = v.placed.steiner_rise;
      apart = λ q j k. v.placed.apart q ((out_in lower lower-order p q s.pins).0 j).0 k;
    })

unless-valid : (o : Option ℕ) (c : Contents) (f : Unit {0} → Contents) → ValidContents c → (o ≡ none → ValidContents (f tt))
    → ValidContents (unless o c f).next
unless-valid none c f v g = g refl
unless-valid (some n) c f v g = v

pub step-valid : (c : Contents) (k : Call) → ValidContents c → ValidContents (step c k).next
unfolding step
step-valid c (add p k) v =
    unless-valid (insert_refusal p k c.state) c (λ _. following k c (insert p c.state)) v
    (λ e. let a = insert_allowed p k c.state e in
    following-valid k a.kind v (insert-valid p c.state v.state a.range a.free a.room))
step-valid c (withdraw p) v =
    unless-valid (remove_refusal p c.state) c (λ _. following sensor c (remove p c.state)) v
    (λ e. following-valid sensor (omega arith) v (remove-valid p c.state v.state (remove_allowed p c.state e)))
step-valid c one_round v = keeping-valid v (round-valid c.tail c.state v.state) (round-pins c.tail c.state v.state)
step-valid c run_to_end v =
    let rounds = (finish-rounds c.tail c.state v.state).0 in
    keeping-valid v (rounds-valid rounds v.state) (rounds-pins rounds v.state)
step-valid c (set_tail tail) v = unless-valid (tail_refusal tail) c _ v (λ e. with_tail-valid v (tail_allowed tail e))

pub after-valid : (calls : List Call) (c : Contents) → ValidContents c → ValidContents (contents_after c calls)
unfolding contents_after
after-valid [] c v = v
after-valid (k ∷ ks) c v = after-valid ks (step c k).next (step-valid c k v)
