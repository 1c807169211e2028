-- The number of a word: digits are read one after the other, until one of them is none or the value is too large; and the
-- number of a sign and a value that 32 bits hold.
use mathlib.Core.Path.{◌≡◌, refl, sym, ap, ◌∙◌}
use mathlib.Core.Bool.{Bool, true, false, ◌&&◌}
use mathlib.Core.List.{List, [], ◌∷◌}
use Prim.Native.Nat.{ℕ, ◌+◌, ◌*◌, ◌-◌, ◌≤◌, ◌<◌}
use native.Mathlib.Omega.{arith}
use native.Mathlib.Decide.{dec_le}
use lib.Dec.{leb}
use lib.ListN.{length, take, drop, get_or, drop_of_length-le}
use lib.Seq.{take_all}
use lib.IntN.{pos, neg_ℤ}
use borrow.Author.Tests.{le-leb, lt-leb, eq-eqb, ne_eqb}
use Rattle.arrays.specs.Test.{if}
use Rattle.std.proofs.Common.{Option, None, Some, ℤ}
use Rattle.std.proofs.lemmas.Option.{none-some, same_Some}
use Rattle.std.specs.Char.{is_ascii_digit}
use Rattle.numbers.specs.Numbers.{are_digits, value_from, is_magnitude, magnitude_of, number_of}
use Rattle.words.proofs.Words.{here}

-- What the loop answers for the digits l that follow digits of the value v.
unfoldable pub read : ℕ → ℕ → List ℕ → Option ℕ
read most v [] = Some v
read most v (b ∷ l) =
    if (is_ascii_digit b)
    (λ _. if (leb (10 * v + (b - 48)) most) (λ _. read most (10 * v + (b - 48)) l) (λ _. None))
    (λ _. None)

grows : (v : ℕ) (l : List ℕ) → v ≤ value_from v l
unfolding value_from
grows v [] = omega arith
grows v (b ∷ l) = omega (arith, grows (10 * v + (b - 48)) l)

-- It is the value, unless that is too large or a byte is no digit.
abbrev Told : ℕ → ℕ → List ℕ → Option ℕ
Told most v l = if (are_digits l && leb (value_from v l) most) (λ _. Some (value_from v l)) (λ _. None)

read_is : (most v : ℕ) (l : List ℕ) → v ≤ most → read most v l ≡ Told most v l
unfolding read are_digits value_from
read_is most v [] h = rw (le-leb v most h) refl
read_is most v (b ∷ l) h = go (10 * v + (b - 48)) (leb 48 b) (leb b 57) (dec_le (10 * v + (b - 48)) most) (read_is most (10 * v + (b - 48)) l)
  where
    too : (t : Bool) (n m : ℕ) → m < n → None ≡ if (t && leb n m) (λ _. Some n) (λ _. None)
    too true n m k = rw (lt-leb n m k) refl
    too false n m k = refl

    go : (u : ℕ) (p q : Bool) → Dec (u ≤ most) → (u ≤ most → read most u l ≡ Told most u l)
        → if (p && q) (λ _. if (leb u most) (λ _. read most u l) (λ _. None)) (λ _. None)
        ≡ if (p && (q && are_digits l) && leb (value_from u l) most) (λ _. Some (value_from u l)) (λ _. None)
    go u false q d r = refl
    go u true false d r = refl
    go u true true (yes k) r = rw (le-leb u most k) (r k)
    go u true true (no n) r =
        let k : most < u = omega arith in
        rw (lt-leb u most k) (too (are_digits l) (value_from u l) most (omega (arith, grows u l)))

pub read_all : (most : ℕ) (l : List ℕ) → (length l ≡ 0 → ⊥) → magnitude_of most l ≡ read most 0 l
unfolding magnitude_of
read_all most [] n = absurd (n refl)
read_all most (b ∷ l) n = sym (read_is most 0 (b ∷ l) (omega arith))

pub read_none : (most : ℕ) (l : List ℕ) → length l ≡ 0 → None ≡ magnitude_of most l
unfolding magnitude_of
read_none most [] e = refl
read_none most (b ∷ l) e = absurd (omega arith)

-- A step of the loop, and its ends.
module _ (l : List ℕ) (most v i : ℕ) (inv : magnitude_of most l ≡ read most v (drop i l)) where
  abbrev b : ℕ
  b = get_or l i 0

  pub read_other : i < length l → is_ascii_digit b ≡ false → None ≡ magnitude_of most l
  unfolding read
  read_other h e = sym (inv ∙ rw (here l i h, e) refl)

  pub read_large : i < length l → is_ascii_digit b ≡ true → (d : ℕ) → d ≡ b - 48 → most < 10 * v + d → None ≡ magnitude_of most l
  unfolding read
  read_large h e d f m = sym (inv ∙ rw (here l i h, e, sym f, lt-leb (10 * v + d) most m) refl)

  pub read_on : i < length l → is_ascii_digit b ≡ true → (d : ℕ) → d ≡ b - 48 → 10 * v + d ≤ most
      → magnitude_of most l ≡ read most (10 * v + d) (drop (i + 1) l)
  unfolding read
  read_on h e d f m = inv ∙ rw (here l i h, e, sym f, le-leb (10 * v + d) most m) refl

  pub read_end : length l ≤ i → Some v ≡ magnitude_of most l
  unfolding read
  read_end h = sym (inv ∙ rw (drop_of_length-le l {i = i} h) refl)

-- A magnitude is at most the most.
pub at_most : (most : ℕ) (l : List ℕ) {m : ℕ} → magnitude_of most l ≡ Some m → m ≤ most
unfolding magnitude_of
at_most most [] e = absurd (none-some _ e)
at_most most (a ∷ l) {m} e = go (are_digits (a ∷ l)) (dec_le (value_from 0 (a ∷ l)) most) e
  where
    none : {A : Type 0} {x : A} → None ≡ Some x → ⊥
    none {x} f = none-some x f

    go : (p : Bool) → Dec (value_from 0 (a ∷ l) ≤ most)
        → if (p && leb (value_from 0 (a ∷ l)) most) (λ _. Some (value_from 0 (a ∷ l))) (λ _. None) ≡ Some m → m ≤ most
    go false d f = absurd (none f)
    go true (yes h) f = omega (arith, same_Some (value_from 0 (a ∷ l)) m (rw (le-leb (value_from 0 (a ∷ l)) most h) at f))
    go true (no n) f = let k : most < value_from 0 (a ∷ l) = omega arith in absurd (none (rw (lt-leb (value_from 0 (a ∷ l)) most k) at f))

-- The number of a word by its first byte and the magnitude of what it is of.
abbrev rest : List ℕ → List ℕ
rest w = take (length w - 1) (drop 1 w)

abbrev signed : (ℕ → ℤ) → Option ℕ → Option ℤ
signed f None = None
signed f (Some m) = Some (f m)

abbrev minus : ℕ → ℤ
minus m = neg_ℤ (pos m)

by_test : (f : ℕ → ℤ) (n : ℕ) (t : Bool) → if t (λ _. Some (f n)) (λ _. None) ≡ signed f (if t (λ _. Some n) (λ _. None))
by_test f n true = refl
by_test f n false = refl

negative : (w : List ℕ) → 1 ≤ length w → get_or w 0 0 ≡ 45 → number_of w ≡ signed minus (magnitude_of 2147483648 (rest w))
unfolding number_of magnitude_of
negative [] h e = absurd (omega arith)
negative (b ∷ l) h e = rw (eq-eqb b 45 e, take_all (length (b ∷ l) - 1) l (omega arith)) (by_test minus (value_from 0 l) (is_magnitude 2147483648 l))

natural : (w : List ℕ) → (1 ≤ length w → get_or w 0 0 ≡ 45 → ⊥) → number_of w ≡ signed (λ m. pos m) (magnitude_of 2147483647 w)
unfolding number_of magnitude_of
natural [] n = refl
natural (b ∷ l) n = rw (ne_eqb b 45 (n (omega arith))) (by_test (λ m. pos m) (value_from 0 (b ∷ l)) (is_magnitude 2147483647 (b ∷ l)))

module _ (w : List ℕ) where
  pub minus_none : 1 ≤ length w → get_or w 0 0 ≡ 45 → magnitude_of 2147483648 (rest w) ≡ None → None ≡ number_of w
  minus_none h e f = sym (negative w h e ∙ ap (signed minus) f)

  pub minus_some : 1 ≤ length w → get_or w 0 0 ≡ 45 → (m : ℕ) → magnitude_of 2147483648 (rest w) ≡ Some m → Some (neg_ℤ (pos m)) ≡ number_of w
  minus_some h e m f = sym (negative w h e ∙ ap (signed minus) f)

  pub plus_none : (1 ≤ length w → get_or w 0 0 ≡ 45 → ⊥) → magnitude_of 2147483647 w ≡ None → None ≡ number_of w
  plus_none n f = sym (natural w n ∙ ap (signed (λ m. pos m)) f)

  pub plus_some : (1 ≤ length w → get_or w 0 0 ≡ 45 → ⊥) → (m : ℕ) → magnitude_of 2147483647 w ≡ Some m → Some (pos m) ≡ number_of w
  plus_some n m f = sym (natural w n ∙ ap (signed (λ m. pos m)) f)
