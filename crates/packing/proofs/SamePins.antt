-- The same pins give the same file. After additions that are all done, the calls among them are exactly those that add each pin with its kind, by
-- recursion over them. So the same calls give the same pins, which rise, and the same kind at each of them.
use mathlib.Core.Path.{◌≡◌, refl, sym, ap, ap₂, ◌∙◌, subst⁻¹}
use mathlib.Core.Logic.{◌↔◌, ◌⊎◌, inl, inr, ⊎_elim}
use mathlib.Core.List.Memᴰ.{head}
use mathlib.Core.List.Memᴰ.{tail}
use mathlib.Core.List.{List, [], ◌∷◌, ◌++◌, map, Memᴰ}
use mathlib.Core.List.Memᴰ.{cases_cons as cases}
use mathlib.Core.List.Memᴰ.{not-nil}
use Prim.Native.Nat.{ℕ, ◌+◌, ◌≤◌}
use native.Mathlib.Omega.{arith}
use lib.Dec.{T, ltb→lt}
use lib.ListN.{length}
use Rattle.arrays.specs.Set.{Each}
use Rattle.arrays.proofs.Beside.{beside_all, map-members}
use Rattle.arrays.proofs.Members.{sorted_ext}
use Rattle.plane.specs.Point.{Point, in_range, lower}
use Rattle.plane.proofs.Order.{lower-order}
use Rattle.model.specs.State.{max_pins}
use Rattle.model.specs.DeviceKinds.{sensor, is_kind}
use Rattle.model.specs.Contents.{Contents, kind_at, with_kinds, empty_contents, ValidContents}
use Rattle.model.specs.Call.{Call, add, withdraw, one_round, run_to_end, set_tail, done, add_checks, step, contents_after}
use Rattle.model.specs.File.{plain_file_of}
use Rattle.model.specs.Refusal.{Pass}
use Rattle.model.proofs.KindsFollow.{kinds-follow}
use Rattle.model.proofs.PinsAdded.{Device, added-pins}
use Rattle.model.proofs.Refusal.{add-taken}
use Rattle.model.proofs.Session.{empty_contents_lem}
use Rattle.model.proofs.Step.{step-valid, after-valid}
use Rattle.lines.specs.Lines.{all_lines}
use Rattle.pin_line.specs.declared.PinLine.{PinLine}
use Rattle.pin_line.specs.declared.PinLine.TheVariants as pin_line
use Rattle.pin_line.specs.PinLines.{pin_line_of}
use Rattle.packing.specs.Claim.{call_of, calls_of, AllDone, Whole, SamePins}

-- The calls of lines add pins.
abbrev pub IsAdd : Call → Type 0
IsAdd (add p k) = Unit {0}
IsAdd (withdraw p) = ⊥
IsAdd one_round = ⊥
IsAdd run_to_end = ⊥
IsAdd (set_tail t) = ⊥

pub calls-add : (ls : List (List ℕ)) → Each IsAdd (calls_of ls)
calls-add [] = tt
calls-add (l ∷ ls) = go (pin_line_of l) (calls-add ls)
  where
    go : (q : PinLine) → Each IsAdd (calls_of ls) → Each IsAdd (call_of q ++ calls_of ls)
    go pin_line.Passed rest = rest
    go pin_line.Error rest = rest
    go (pin_line.Pin x y kind) rest = (tt, rest)

-- The pins after an addition that is done.
pub now_pins : (c : Contents) → ValidContents c → (p : Point) (k : ℕ) → (step c (add p k)).reply ≡ done → (q : Point)
    → Memᴰ q (step c (add p k)).next.state.pins ↔ ((q ≡ p) ⊎ Memᴰ q c.state.pins)
unfolding contents_after
now_pins c v p k e q = (
  λ i. ⊎_elim (λ m. ⊎_elim inl (λ n. absurd (not-nil n)) (cases m)) inr (pins.0 i),
  λ i. pins.1 (⊎_elim (λ f. inl (head f)) inr i),
)
  where
    passed : Pass (add_checks p k c.state)
    passed = (add-taken c p k).0 e

    allowed : (a : Device) → Memᴰ a ((p, k) ∷ []) → T (in_range a.0) × T (is_kind a.1)
    allowed a i =
        ⊎_elim (λ f. subst⁻¹ (λ (b : Device). T (in_range b.0) × T (is_kind b.1)) f (passed.0, passed.1.0)) (λ j. absurd (not-nil j)) (cases i)

    room : length c.state.pins + 1 ≤ max_pins
    room = omega (arith, ltb→lt (length c.state.pins) max_pins passed.1.1.1.0)

    pins : Memᴰ q (step c (add p k)).next.state.pins ↔ (Memᴰ q (p ∷ []) ⊎ Memᴰ q c.state.pins)
    pins = added-pins ((p, k) ∷ []) c v allowed room q

-- The pins of d are those of c, each of the same kind, and those that the calls add, each of the kind given.
record Added (c : Contents) (calls : List Call) (d : Contents) : Type 0 where
  kept : (p : Point) → Memᴰ p c.state.pins → Memᴰ p d.state.pins × (kind_at d p ≡ kind_at c p)
  there : (p : Point) (k : ℕ) → Memᴰ (add p k) calls → Memᴰ p d.state.pins × (kind_at d p ≡ k)
  only : (p : Point) → Memᴰ p d.state.pins → Memᴰ p c.state.pins ⊎ Memᴰ (add p (kind_at d p)) calls

-- One call in front of others.
module _ (c : Contents) (v : ValidContents c) (p : Point) (k : ℕ) (e : (step c (add p k)).reply ≡ done) (calls : List Call) (d : Contents)
    (rest : Added (step c (add p k)).next calls d) where
  new : Memᴰ p d.state.pins × (kind_at d p ≡ k)
  new =
      let h = rest.kept p ((now_pins c v p k e p).1 (inl refl)) in
      (h.0, h.1 ∙ (kinds-follow c v).added p k e)

  in_front : Added c (add p k ∷ calls) d
  in_front =
      record {
        kept = λ q i. let h = rest.kept q ((now_pins c v p k e q).1 (inr i)) in (h.0, h.1 ∙ (kinds-follow c v).besides p k e q i);
        there = λ q n m. ⊎_elim (same q n) (rest.there q n) (cases m);
        only = λ q i. ⊎_elim (λ j. ⊎_elim (λ f. inr (head (named q f))) inl ((now_pins c v p k e q).0 j)) (λ m. inr (tail m)) (rest.only q i);
      }
    where
      same : (q : Point) (n : ℕ) → add q n ≡ add p k → Memᴰ q d.state.pins × (kind_at d q ≡ n)
      same q n f =
          let place : q ≡ p = cc in
          let kind : n ≡ k = cc in
          (subst⁻¹ (λ (u : Point). Memᴰ u d.state.pins) place new.0, ap (kind_at d) place ∙ new.1 ∙ sym kind)

      named : (q : Point) → q ≡ p → add q (kind_at d q) ≡ add p k
      named q f = ap₂ add f (ap (kind_at d) f ∙ new.1)

all_added : (calls : List Call) → Each IsAdd calls → (c : Contents) → ValidContents c → AllDone c calls → Added c calls (contents_after c calls)
unfolding contents_after
all_added [] a c v h = record { kept = λ p i. (i, refl); there = λ p k m. absurd (not-nil m); only = λ p i. inl i }
all_added (add p k ∷ ks) a c v h =
    in_front c v p k h.0 ks _ (all_added ks a.1 (step c (add p k)).next (step-valid c (add p k) v) h.1)
all_added (withdraw p ∷ ks) a c v h = absurd a.0
all_added (one_round ∷ ks) a c v h = absurd a.0
all_added (run_to_end ∷ ks) a c v h = absurd a.0
all_added (set_tail t ∷ ks) a c v h = absurd a.0

-- What contents hold that calls lead to from the empty deck, those hold too that more calls lead to.
held : (c d : Contents) (k l : List Call) → Added empty_contents k c → Added empty_contents l d → ((a : Call) → Memᴰ a k → Memᴰ a l)
    → (p : Point) → Memᴰ p c.state.pins → Memᴰ p d.state.pins × (kind_at c p ≡ kind_at d p)
held c d k l f g h p i =
    ⊎_elim (λ j. absurd (not-nil j)) (λ m. let r = g.there p (kind_at c p) (h (add p (kind_at c p)) m) in (r.0, sym r.1)) (f.only p i)

-- Valid contents with the same pins, each of the same kind, have the same plain file.
same_file : (c d : Contents) → ValidContents c → ValidContents d
    → ((p : Point) → Memᴰ p c.state.pins → Memᴰ p d.state.pins × (kind_at c p ≡ kind_at d p))
    → ((p : Point) → Memᴰ p d.state.pins → Memᴰ p c.state.pins) → plain_file_of c ≡ plain_file_of d
unfolding plain_file_of
same_file c d v w there back = λ i. plain_file_of (with_kinds (record { pins = pins i; steiner = [] }) (kinds i))
  where
    pins : c.state.pins ≡ d.state.pins
    pins = sorted_ext lower-order _ _ v.state.placed.pins_rise w.state.placed.pins_rise (λ p i. (there p i).0) back

    looked_up : (e : Contents) → ValidContents e → map (kind_at e) e.state.pins ≡ e.kinds
    looked_up e u = beside_all lower lower-order sensor e.state.pins u.state.placed.pins_rise e.kinds u.kind_count

    kinds : c.kinds ≡ d.kinds
    kinds =
        sym (looked_up c v) ∙ map-members (kind_at c) (kind_at d) c.state.pins (λ p i. (there p i).1) ∙ ap (map (kind_at d)) pins ∙ looked_up d w

-- The claim.
pub same_pins : SamePins
same_pins a b whole other same =
    whole.out ∙ same_file (after a) (after b) (valid a) (valid b) (held _ _ _ _ (added a whole) (added b other) (λ k. (same k).0))
    (λ p i. (held _ _ _ _ (added b other) (added a whole) (λ k. (same k).1) p i).0)
    ∙ sym other.out
  where
    after : List ℕ → Contents
    after input = contents_after empty_contents (calls_of (all_lines input))

    valid : (input : List ℕ) → ValidContents (after input)
    valid input = after-valid (calls_of (all_lines input)) empty_contents empty_contents_lem

    added : (input : List ℕ) → Whole input → Added empty_contents (calls_of (all_lines input)) (after input)
    added input w = all_added (calls_of (all_lines input)) (calls-add (all_lines input)) empty_contents empty_contents_lem w.good.added
