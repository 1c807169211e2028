-- Devices at points in range, added one after the other while there is room, are pins then, and so are the pins from before. By induction on the list: a
-- call adds its point, or is refused since the point is a pin already, and the pins are the same set then.
use mathlib.Core.Path.{◌≡◌, refl, sym, ap, ◌∙◌, subst, subst⁻¹}
use mathlib.Core.Logic.{◌↔◌, ◌⊎◌, inl, inr, ⊎_elim}
use mathlib.Core.Option.{Option, none, some}
use mathlib.Core.List.Memᴰ.{cases_cons as cases}
use mathlib.Core.List.Memᴰ.{head}
use mathlib.Core.List.Memᴰ.{tail}
use mathlib.Core.List.{List, [], ◌∷◌, map, Memᴰ}
use mathlib.Core.List.Memᴰ.{not-nil}
use Prim.Native.Nat.{ℕ, suc, ◌+◌, ◌≤◌, ◌<◌}
use native.Mathlib.Omega.{arith}
use lib.Dec.{T, lt→ltb}
use lib.ListN.{length}
use Rattle.arrays.specs.Set.{put}
use Rattle.arrays.proofs.Set.{put_in, put-length, put_or_free, has_not}
use Rattle.plane.specs.Point.{Point, in_range, lower}
use Rattle.plane.proofs.Order.{lower-order}
use Rattle.model.specs.Refusal.{here, later}
use Rattle.model.specs.State.{State, with_pin, insert, max_pins}
use Rattle.model.specs.DeviceKinds.{is_kind}
use Rattle.model.specs.Contents.{Contents, following, ValidContents}
use Rattle.model.specs.Call.{Call, add, add_checks, insert_refusal, unless, step, contents_after}
use Rattle.model.proofs.Prune.{prune-leaves}
use Rattle.model.proofs.Refusal.{first_failed_lem, all_passed}
use Rattle.model.proofs.Step.{with_pin-placed, step-valid}

-- The pins after one call, and how many there are.
module _ (c : Contents) (v : ValidContents c) (p : Point) (range : T (in_range p)) (k : ℕ) (kind : T (is_kind k))
    (room : length c.state.pins < max_pins) where
  abbrev s : State
  s = c.state

  there_or_free : (put lower p s.pins ≡ s.pins) ⊎ ¬ Memᴰ p s.pins
  there_or_free = put_or_free lower lower-order p s.pins v.state.placed.pins_rise

  add-pins : (step c (add p k)).next.state.pins ≡ put lower p s.pins
  unfolding step insert_refusal insert
  add-pins = ⊎_elim (λ same. ap pins_by (refused same) ∙ sym same) (λ free. ap pins_by (taken free) ∙ swept) there_or_free
    where
      pins_by : Option ℕ → List Point
      pins_by o = (unless o c (λ _. following k c (insert p s))).next.state.pins

      swept : (insert p s).pins ≡ put lower p s.pins
      swept = let h = with_pin-placed p s v.state.placed range in (prune-leaves (with_pin p s) h.steiner_rise h.apart).pins

      taken : ¬ Memᴰ p s.pins → insert_refusal p k s ≡ none
      taken free =
          (all_passed (add_checks p k s)).1 (range, (kind, ((has_not lower lower-order p s.pins).1 free, (lt→ltb (length s.pins) max_pins room, tt))))

      refused : put lower p s.pins ≡ s.pins → insert_refusal p k s ≡ some 8
      refused same =
          let there = subst (λ (l : List Point). Memᴰ p l) same ((put_in lower lower-order p p s.pins).1 (inl refl)) in
          (first_failed_lem 8 (add_checks p k s)).1 (later range (later kind (here refl (λ t. (has_not lower lower-order p s.pins).0 t there))))

  one_more : length (step c (add p k)).next.state.pins ≤ suc (length s.pins)
  one_more =
      ⊎_elim (λ same. omega (arith, ap length (add-pins ∙ same)))
      (λ free. omega (arith, ap length add-pins, put-length lower lower-order p s.pins free)) there_or_free

  now_pins : (u : Point) → Memᴰ u (step c (add p k)).next.state.pins ↔ ((u ≡ p) ⊎ Memᴰ u s.pins)
  now_pins u =
      subst⁻¹ (λ (l : List Point). Memᴰ u l ↔ ((u ≡ p) ⊎ Memᴰ u s.pins)) add-pins (put_in lower lower-order p u s.pins)

-- Devices, each a point and a kind; the call that adds one.
abbrev pub Device : Type 0
Device = Point × ℕ

abbrev pub adding : Device → Call
adding a = add a.0 a.1

pub added-pins : (l : List Device) (c : Contents) → ValidContents c
    → ((a : Device) → Memᴰ a l → T (in_range a.0) × T (is_kind a.1)) → length c.state.pins + length l ≤ max_pins
    → (u : Point) → Memᴰ u (contents_after c (map adding l)).state.pins ↔ (Memᴰ u (map (λ (a : Device). a.0) l) ⊎ Memᴰ u c.state.pins)
unfolding contents_after
added-pins [] c v ok room u = (inr, ⊎_elim (λ i. absurd (not-nil i)) (λ i. i))
added-pins (a ∷ l) c v ok room u =
    let here = ok a (head refl) in
    let rest = added-pins l (step c (adding a)).next (step-valid c (adding a) v) (λ b i. ok b (tail i))
    (omega (arith, one_more c v a.0 here.0 a.1 here.1 (omega arith))) u in
    let now = now_pins c v a.0 here.0 a.1 here.1 (omega arith) u in (
      λ i. ⊎_elim (λ j. inl (tail j)) (λ j. ⊎_elim (λ e. inl (head e)) inr (now.0 j)) (rest.0 i),
      λ i. rest.1 (⊎_elim (λ j. ⊎_elim (λ e. inr (now.1 (inl e))) inl (cases j)) (λ j. inr (now.1 (inr j))) i),
    )
