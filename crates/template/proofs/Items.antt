-- What one byte of a template becomes, by the tests on it: without numbers left itself, a sign the next number or coordinate, any other byte itself.
use mathlib.Core.Path.{◌≡◌, refl, sym, ap, ◌∙◌}
use mathlib.Core.Bool.{Bool}
use mathlib.Core.List.{List, [], ◌∷◌}
use Prim.Native.Nat.{ℕ, suc, ◌+◌, ◌≤◌, ◌<◌}
use native.Mathlib.Numerals.{add-one}
use native.Mathlib.Omega.{arith}
use lib.Dec.{eqb}
use lib.ListN.{length, drop, get_or, drop_of_length-le}
use lib.Seq.{drop-cons}
use borrow.Author.Tests.{eq-eqb, ne_eqb}
use Rattle.arrays.specs.Test.{if}
use Rattle.arrays.specs.Paste.{Pasted}
use Rattle.arrays.proofs.paste.Parts.{pasted_same}
use Rattle.model.specs.Listing.{decimal}
use Rattle.ascii.specs.Text.{most_digits}
use Rattle.template.specs.Template.{number_room, number_sign, coordinate_sign, coordinate_text, by_sign, item_text, numbers_left, Puts}

-- A case by the tests on a byte.
module _ {A : Type 0} (b : ℕ) (number place other : Unit {0} → A) where
  sign_number : b ≡ number_sign → number tt ≡ by_sign b number place other
  sign_number e = ap (λ (t : Bool). if t number (λ _. if (eqb b coordinate_sign) place other)) (sym (eq-eqb b number_sign e))

  sign_coordinate : ¬ (b ≡ number_sign) → b ≡ coordinate_sign → place tt ≡ by_sign b number place other
  sign_coordinate n e = sym (rw (ne_eqb b number_sign n) rw (eq-eqb b coordinate_sign e) refl)

  sign_other : ¬ (b ≡ number_sign) → ¬ (b ≡ coordinate_sign) → other tt ≡ by_sign b number place other
  sign_other n m = sym (rw (ne_eqb b number_sign n) rw (ne_eqb b coordinate_sign m) refl)

-- What is put, by how many numbers are left and which byte it is.
module _ (b : ℕ) (numbers before after : List ℕ) (at used next : ℕ) where
  pub put_last : used ≡ length numbers → Pasted (b ∷ []) before after at next
      → Puts b numbers before after at used (record { next = next; used = used })
  unfolding item_text numbers_left
  put_last e p =
      let all : length numbers ≤ used = omega (arith, e) in
      let none : drop used numbers ≡ [] = drop_of_length-le numbers all in
      record {
        text = pasted_same (sym (ap (item_text b) none)) p;
        left = none ∙ sym (ap (numbers_left b) none);
        within = omega (arith, e);
        room = omega (arith, p.next);
      }

  module _ (h : used < length numbers) where
    abbrev n : ℕ
    n = get_or numbers used 0

    cut : drop used numbers ≡ n ∷ drop (suc used) numbers
    cut = drop-cons numbers used 0 h

    -- A number, or what stands for one.
    taken : (text : List ℕ) → text ≡ item_text b (n ∷ drop (suc used) numbers) → drop (suc used) numbers ≡ numbers_left b (n ∷ drop (suc used) numbers)
        → next ≤ at + number_room → Pasted text before after at next → Puts b numbers before after at used (record { next = next; used = used + 1 })
    taken text e f few p =
        record {
          text = pasted_same (e ∙ sym (ap (item_text b) cut)) p;
          left = ap (λ (k : ℕ). drop k numbers) (add-one used) ∙ f ∙ sym (ap (numbers_left b) cut);
          within = omega arith;
          room = omega (arith, few);
        }

    pub put-number : b ≡ number_sign → next ≤ at + most_digits → Pasted (decimal n) before after at next
        → Puts b numbers before after at used (record { next = next; used = used + 1 })
    unfolding item_text numbers_left
    put-number e few p = taken (decimal n) (sign_number b _ _ _ e) (sign_number b _ _ _ e) (omega (arith, few)) p

    pub put_place : ¬ (b ≡ number_sign) → b ≡ coordinate_sign → next ≤ at + number_room → Pasted (coordinate_text n) before after at next
        → Puts b numbers before after at used (record { next = next; used = used + 1 })
    unfolding item_text numbers_left
    put_place m e few p = taken (coordinate_text n) (sign_coordinate b _ _ _ m e) (sign_coordinate b _ _ _ m e) few p

    -- Any other byte.
    pub put_other : ¬ (b ≡ number_sign) → ¬ (b ≡ coordinate_sign) → Pasted (b ∷ []) before after at next
        → Puts b numbers before after at used (record { next = next; used = used })
    unfolding item_text numbers_left
    put_other m k p =
        record {
          text = pasted_same (sign_other b _ _ _ m k ∙ sym (ap (item_text b) cut)) p;
          left = cut ∙ sign_other b _ _ _ m k ∙ sym (ap (numbers_left b) cut);
          within = omega arith;
          room = omega (arith, p.next);
        }
