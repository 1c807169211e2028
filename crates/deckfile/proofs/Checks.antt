-- Reading, one check after the other: what the checks passed say of the file, and what is answered where one fails.
use mathlib.Core.Path.{◌≡◌, refl, sym, ◌∙◌}
use mathlib.Core.Bool.{Bool, true, false}
use mathlib.Core.List.{List, [], ◌∷◌}
use Prim.Native.Nat.{ℕ, ◌/◌, ◌%◌, ◌≤◌, ◌<◌}
use native.Mathlib.Omega.{arith}
use lib.Dec.{leb, eqb, eqb→eq}
use lib.ListN.{length}
use borrow.Author.Tests.{le-leb, lt-leb}
use Rattle.arrays.specs.Test.{if}
use Rattle.arrays.proofs.Test.{and_parts, of_true}
use Rattle.model.specs.Refusal.{check, first_failed}
use Rattle.model.specs.State.{max_pins, placed}
use Rattle.model.specs.Sections.{size, laid_out}
use Rattle.model.specs.File.{shortest, Read, deck, refusal, read_by, read_file, headed, whole, file_state, file_contents, holds_deck, shows_kinds}
use Rattle.model.proofs.Sections.{laid_out_is}
use Rattle.model.proofs.FileValid.{headed_is}
use Rattle.sections.specs.Layout.{Sections}
use Rattle.deckfile.specs.ReadWorking.{kinds_answer, last_answer}
use Rattle.sections.proofs.codes.Placed.{pins-count}

-- What a test answered, by its definition.
pub failed : {a b : Bool} → a ≡ b → a ≡ false → b ≡ false
failed e f = sym e ∙ f

pub passed : {a b : Bool} → a ≡ b → a ≡ true → b ≡ true
passed e f = sym e ∙ f

module _ (b : List ℕ) where
  -- What the header says once its checks passed.
  pub long_enough : headed b ≡ true → shortest ≤ length b
  long_enough h = ((headed_is b).0 (of_true h)).long

  pub sections_of_lem : headed b ≡ true → laid_out b ≡ true → whole b ≡ true → Sections b
  sections_of_lem h l w =
      let head = (headed_is b).0 (of_true h) in
      let w₁ = and_parts (eqb (size b 0 % 4) 0) _ (of_true w) in
      let w₂ = and_parts (eqb (size b 1 % 4) 0) _ w₁.1 in
      record {
        long = head.long;
        short = head.short;
        fewest = head.fewest;
        most = head.most;
        follow = ((laid_out_is b).0 (of_true l)).1;
        whole₀ = eqb→eq (size b 0 % 4) 0 w₁.0;
        whole₁ = eqb→eq (size b 1 % 4) 0 w₂.0;
        whole₂ = eqb→eq (size b 2 % 2) 0 w₂.1;
      }

  -- The seven checks, as tests in turn.
  answer : Bool → Bool → Bool → Bool → Bool → Bool → Bool → Read
  answer head layout wholes few points shows kinds =
      read_by (file_contents b)
      (first_failed
      (check 1 (λ _. head)
      ∷ check 2 (λ _. layout)
      ∷ check 3 (λ _. wholes)
      ∷ check 4 (λ _. few)
      ∷ check 5 (λ _. points)
      ∷ check 6 (λ _. shows)
      ∷ check 15 (λ _. kinds)
      ∷ []))

  by_checks : {x₁ x₂ x₃ x₄ x₅ : Bool} → headed b ≡ x₁ → laid_out b ≡ x₂ → whole b ≡ x₃
      → leb (length (file_state b).pins) max_pins ≡ x₄ → placed (file_state b) ≡ x₅
      → answer x₁ x₂ x₃ x₄ x₅ (holds_deck b (file_state b)) (shows_kinds b) ≡ read_file b
  unfolding answer read_file
  by_checks e₁ e₂ e₃ e₄ e₅ = sym (λ i. answer (e₁ i) (e₂ i) (e₃ i) (e₄ i) (e₅ i) (holds_deck b (file_state b)) (shows_kinds b))

  pub refused_1 : headed b ≡ false → refusal 1 ≡ read_file b
  unfolding answer read_by first_failed
  refused_1 e = by_checks e refl refl refl refl

  pub refused_2 : headed b ≡ true → laid_out b ≡ false → refusal 2 ≡ read_file b
  unfolding answer read_by first_failed
  refused_2 h e = by_checks h e refl refl refl

  pub refused_3 : headed b ≡ true → laid_out b ≡ true → whole b ≡ false → refusal 3 ≡ read_file b
  unfolding answer read_by first_failed
  refused_3 h l e = by_checks h l e refl refl

  module _ (h : headed b ≡ true) (l : laid_out b ≡ true) (w : whole b ≡ true) where
    counted : length (file_state b).pins ≡ size b 0 / 4
    counted = pins-count b (sections_of_lem h l w)

    pub refused_4 : (u : ℕ) → u ≡ size b 0 → 64 < u / 4 → refusal 4 ≡ read_file b
    unfolding answer read_by first_failed
    refused_4 u e k = by_checks h l w (lt-leb (length (file_state b).pins) 64 (omega (arith, counted))) refl

    module _ (u : ℕ) (e : u ≡ size b 0) (k : u / 4 ≤ 64) where
      few : leb (length (file_state b).pins) 64 ≡ true
      few = le-leb (length (file_state b).pins) 64 (omega (arith, counted))

      pub few-pins : size b 0 ≤ 256
      few-pins = omega (arith, (sections_of_lem h l w).whole₀)

      pub refused_5 : placed (file_state b) ≡ false → refusal 5 ≡ read_file b
      unfolding answer read_by first_failed
      refused_5 f = by_checks h l w few f

      pub all_passed : placed (file_state b) ≡ true → last_answer b ≡ read_file b
      unfolding answer read_by first_failed kinds_answer last_answer
      all_passed f = last (holds_deck b (file_state b)) (shows_kinds b) ∙ by_checks h l w few f
        where
          last : (t u : Bool) → if t (λ _. if u (λ _. deck (file_contents b)) (λ _. refusal 15)) (λ _. refusal 6) ≡ answer true true true true true t u
          last true true = refl
          last true false = refl
          last false u = refl
