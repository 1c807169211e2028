-- Check 15: a file of three sections shows sensors; one of four the kinds of its fourth, where they pass.
use mathlib.Core.Path.{◌≡◌, refl, sym, ap, ◌∙◌, subst⁻¹}
use mathlib.Core.Bool.{Bool, true, false, not}
use mathlib.Core.List.{List, ◌∷◌}
use Prim.Native.Nat.{ℕ, zero, suc, ◌≤◌}
use native.Mathlib.Omega.{arith}
use lib.Dec.{T, ltb→lt, nltb→le, eqb, eqb→eq}
use lib.ListN.{length, take, replicate}
use Rattle.arrays.specs.Test.{if}
use Rattle.arrays.proofs.Test.{and_parts, of_true, true_of}
use Rattle.model.specs.State.{max_pins}
use Rattle.model.specs.DeviceKinds.{sensor}
use Rattle.model.specs.Contents.{with_kinds}
use Rattle.model.specs.Sections.{section_count, section}
use Rattle.model.specs.File.{deck, refusal, kinds_place, has_kinds, file_state, file_contents, all_kinds, shows_kinds}
use Rattle.model.proofs.FileKinds.{three-kinds, four-kinds, four_shown}
use Rattle.points.specs.Coded.{padded}
use Rattle.points.proofs.Codes.{padded-take}
use Rattle.points.proofs.Coded.{pins-count}
use Rattle.working.specs.declared.Working.{Working}
use Rattle.working.specs.InOrder.{state_of}
use Rattle.working.specs.WorkingDeck.{contents_of}
use Rattle.sections.specs.Layout.{Sections}
use Rattle.deckfile.specs.ReadWorking.{kinds_answer}

-- The first of a row of zeros.
zeros_taken : (n m : ℕ) → n ≤ m → take n (replicate {A = ℕ} m 0) ≡ replicate n 0
zeros_taken zero m h = refl
zeros_taken (suc n) zero h = absurd (omega arith)
zeros_taken (suc n) (suc m) h = ap (λ (l : List ℕ). 0 ∷ l) (zeros_taken n m (omega arith))

module _ (b : List ℕ) (d : Sections b) where
  -- The number of sections, by the test for kinds.
  three : has_kinds b ≡ false → section_count b ≡ 3
  three e = omega (arith, nltb→le kinds_place (section_count b) (subst⁻¹ (λ (t : Bool). T (not t)) e tt), d.fewest)

  pub four : has_kinds b ≡ true → section_count b ≡ 4
  four e = omega (arith, ltb→lt kinds_place (section_count b) (of_true e), d.most)

  -- What is answered, by the test.
  answered : {t : Bool} → shows_kinds b ≡ t → if t (λ _. deck (file_contents b)) (λ _. refusal 15) ≡ kinds_answer b
  unfolding kinds_answer
  answered e = ap (λ (t : Bool). if t (λ _. deck (file_contents b)) (λ _. refusal 15)) (sym e)

  -- The deck of the file, with its working form.
  module _ (w : Working) (is : state_of w ≡ file_state b) where
    count : w.points.npins ≡ length (file_state b).pins
    count = sym (pins-count w.points w.in_order.arranged) ∙ ap (λ z. length z.pins) is

    pub shows-sensors : has_kinds b ≡ false → {row : List ℕ} → row ≡ replicate max_pins sensor
        → deck (contents_of (record { form = w; kinds = row; tail = 0 })) ≡ kinds_answer b
    shows-sensors e r =
        let k = three-kinds b (three e) in
        ap deck
        ((λ i. with_kinds (is i) ((ap (take w.points.npins) r ∙ zeros_taken w.points.npins max_pins w.in_order.arranged.pin_codes.few) i))
        ∙ ap (with_kinds (file_state b)) (ap (λ (n : ℕ). replicate n sensor) count ∙ sym k.1))
        ∙ answered (true_of (shows_kinds b) k.0)

    module _ (e : has_kinds b ≡ true) where
      shown : {t : Bool} → all_kinds (section b kinds_place) w.points.npins ≡ t → shows_kinds b ≡ t
      shown f = four_shown b (four e) ∙ ap (all_kinds (section b kinds_place)) (sym count) ∙ f

      pub refused-kinds : all_kinds (section b kinds_place) w.points.npins ≡ false → refusal 15 ≡ kinds_answer b
      refused-kinds f = answered (shown f)

      kinds-count : all_kinds (section b kinds_place) w.points.npins ≡ true → w.points.npins ≡ length (section b kinds_place)
      kinds-count f =
          sym (eqb→eq (length (section b kinds_place)) w.points.npins
          (and_parts (eqb (length (section b kinds_place)) w.points.npins) _ (of_true f)).0)

      pub shows_kinds_lem : all_kinds (section b kinds_place) w.points.npins ≡ true → {row : List ℕ} → row ≡ padded max_pins (section b kinds_place)
          → deck (contents_of (record { form = w; kinds = row; tail = 0 })) ≡ kinds_answer b
      shows_kinds_lem f r =
          ap deck
          (λ i. with_kinds (is i)
          ((ap (take w.points.npins) r ∙ padded-take max_pins (section b kinds_place) w.points.npins (sym (kinds-count f))
          ∙ sym (four-kinds b (four e))) i))
          ∙ answered (shown f)
