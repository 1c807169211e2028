-- The digits of a number, last first: they fill the places from the end.
use mathlib.Core.Path.{◌≡◌, refl, sym, ap, ◌∙◌}
use mathlib.Core.Bool.{Bool}
use mathlib.Core.List.{List, [], ◌∷◌}
use Prim.Native.Nat.{ℕ, zero, suc, ◌+◌, ◌-◌, ◌*◌, ◌/◌, ◌%◌, ◌≤◌, ◌<◌}
use native.Mathlib.Omega.{arith}
use lib.Dec.{ltb, nltb→le}
use lib.ListN.{length, drop, set, length-set}
use lib.Seq.{drop-cons, drop-set-lt, get_or-set_same}
use borrow.Author.Tests.{lt-ltb, le-ltb}
use Rattle.arrays.specs.Test.{if}
use Rattle.arrays.proofs.Test.{by_test}
use Rattle.model.specs.Listing.{digits_from, decimal}

-- The last digit, and those in front of it where there are more.
module _ (k n : ℕ) (t : List ℕ) where
  digits_one : n < 10 → digits_from (suc k) n t ≡ (48 + n % 10) ∷ t
  unfolding digits_from
  digits_one h = ap (λ (b : Bool). if b (λ _. (48 + n % 10) ∷ t) (λ _. digits_from k (n / 10) ((48 + n % 10) ∷ t))) (lt-ltb n 10 h)

  digits_more : 10 ≤ n → digits_from (suc k) n t ≡ digits_from k (n / 10) ((48 + n % 10) ∷ t)
  unfolding digits_from
  digits_more h = ap (λ (b : Bool). if b (λ _. (48 + n % 10) ∷ t) (λ _. digits_from k (n / 10) ((48 + n % 10) ∷ t))) (le-ltb n 10 h)

digits_none : (n : ℕ) (t : List ℕ) → digits_from 0 n t ≡ t
unfolding digits_from
digits_none n t = refl

-- With i places left, the rest of the number has still to be written in front of the digits that stand behind.
pub record Filled (n : ℕ) (l : List ℕ) (rest i : ℕ) : Type 0 where
  pub size : length l ≡ 20
  pub within : i ≤ 20
  pub all : digits_from i rest (drop i l) ≡ decimal n

module _ (n : ℕ) (l : List ℕ) (rest i : ℕ) (f : Filled n l rest i) (some : 0 < i) where
  abbrev with_digit : List ℕ
  with_digit = set l (i - 1) (48 + rest % 10)

  written : drop (i - 1) with_digit ≡ (48 + rest % 10) ∷ drop i l
  written =
      let before : suc (i - 1) ≡ i = omega arith in
      drop-cons with_digit (i - 1) 0 (omega (arith, length-set l (i - 1) (48 + rest % 10), f.size, f.within))
      ∙ ap (λ (d : ℕ). d ∷ drop (suc (i - 1)) with_digit) (get_or-set_same l (i - 1) (48 + rest % 10) 0 (omega (arith, f.size, f.within)))
      ∙ ap (λ (t : List ℕ). (48 + rest % 10) ∷ t) (drop-set-lt (suc (i - 1)) l (i - 1) (48 + rest % 10) (omega arith))
      ∙ ap (λ (k : ℕ). (48 + rest % 10) ∷ drop k l) before

  left : digits_from (suc (i - 1)) rest (drop i l) ≡ decimal n
  left = let before : suc (i - 1) ≡ i = omega arith in ap (λ (k : ℕ). digits_from k rest (drop i l)) before ∙ f.all

  -- The first digit stands at the place before.
  pub filled_end : rest < 10 → drop (i - 1) with_digit ≡ decimal n
  filled_end h = written ∙ sym (digits_one (i - 1) rest (drop i l) h) ∙ left

  pub filled_more : 10 ≤ rest → Filled n with_digit (rest / 10) (i - 1)
  filled_more h =
      record {
        size = length-set l (i - 1) (48 + rest % 10) ∙ f.size;
        within = omega (arith, f.within);
        all = ap (digits_from (i - 1) (rest / 10)) written ∙ sym (digits_more (i - 1) rest (drop i l) h) ∙ left;
      }

-- No place is left.
pub filled_full : (n : ℕ) (l : List ℕ) (rest i : ℕ) → Filled n l rest i → i ≤ 0 → l ≡ decimal n
filled_full n l rest i f h =
    let e : 0 ≡ i = omega arith in
    sym (digits_none rest l) ∙ ap (λ (k : ℕ). digits_from k rest (drop k l)) e ∙ f.all

-- At most k digits.
pub digits_most : (k n : ℕ) (t : List ℕ) → length (digits_from k n t) ≤ k + length t
unfolding digits_from
digits_most zero n t = omega arith
digits_most (suc k) n t =
    by_test (λ (l : List ℕ). length l ≤ suc k + length t) (ltb n 10) _ _ (λ _. omega arith)
    (λ _. omega (arith, digits_most k (n / 10) ((48 + n % 10) ∷ t)))

pub decimal-most : (n : ℕ) → length (decimal n) ≤ 20
decimal-most n = omega (arith, digits_most 20 n [])

-- Fewer digits where the number is small.
unfoldable tens : ℕ → ℕ
tens zero = 1
tens (suc d) = 10 * tens d

digits_few : (d k n : ℕ) (t : List ℕ) → n < 10 * tens d → length (digits_from k n t) ≤ suc d + length t
unfolding digits_from tens
digits_few d zero n t h = omega arith
digits_few zero (suc k) n t h =
    by_test (λ (l : List ℕ). length l ≤ 1 + length t) (ltb n 10) _ _ (λ _. omega arith) (λ c. absurd (omega (arith, nltb→le n 10 c)))
digits_few (suc d) (suc k) n t h =
    by_test (λ (l : List ℕ). length l ≤ suc (suc d) + length t) (ltb n 10) _ _ (λ _. omega arith)
    (λ _. omega (arith, digits_few d k (n / 10) ((48 + n % 10) ∷ t) (omega arith)))

pub decimal-few : (n : ℕ) → n < 100000 → length (decimal n) ≤ 5
unfolding tens
decimal-few n h = omega (arith, digits_few 4 20 n [] h)
