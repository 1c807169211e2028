-- Decoding pairs of digits: the bytes decoded so far stand in front, and the others are those of the digits that are left.
use mathlib.Core.Path.{◌≡◌, refl, sym, ap, ap₂, ◌∙◌, subst}
use mathlib.Core.Bool.{true}
use mathlib.Core.List.{List, [], ◌∷◌, ◌++◌}
use Prim.Native.Nat.{ℕ, suc, ◌+◌, ◌*◌, ◌≤◌, ◌<◌}
use native.Mathlib.Numerals.{add-one}
use native.Mathlib.Omega.{arith}
use native.Mathlib.Decide.{dec_le}
use lib.ListN.{length, take, drop, get_or, set, length-append, length-drop}
use lib.Seq.{drop-cons, drop-drop, get_or-drop, take-suc, take_all, length-take-le, set_at, append_snoc}
use Rattle.std.proofs.Common.{Option, None, Some, MatchOption, min, ◌/◌}
use Rattle.std.specs.Option.{IsSome}
use Rattle.arrays.specs.Paste.{Pasted}
use Rattle.arrays.proofs.paste.Parts.{front_of}
use Rattle.words.specs.Hex.{digit_of, is_hex, pairs}
use Rattle.words.proofs.hex.Pairs.{Pair, a_pair}

-- The byte of the two digits from place i on.
abbrev pub byte_at : List ℕ → ℕ → ℕ
byte_at w i = 16 * digit_of (get_or w i 0) + digit_of (get_or w (i + 1) 0)

-- A pair at place i, where what is left is pairs and is not empty.
pub record Step (w : List ℕ) (i : ℕ) : Type 0 where
  pub long : i + 1 < length w
  pub high : digit_of (get_or w i 0) < 16
  pub low : digit_of (get_or w (i + 1) 0) < 16
  pub hex : is_hex (drop (i + 2) w) ≡ true
  pub bytes : pairs (drop i w) ≡ byte_at w i ∷ pairs (drop (i + 2) w)

pub step_at : (w : List ℕ) (i : ℕ) → i < length w → is_hex (drop i w) ≡ true → Step w i
step_at w i h e = record {
  long = omega (arith, length-drop i w, p.long);
  high = subst (λ (n : ℕ). digit_of n < 16) first p.high;
  low = subst (λ (n : ℕ). digit_of n < 16) second p.low;
  hex = subst (λ (l : List ℕ). is_hex l ≡ true) (drop-drop 2 i w) p.rest;
  bytes = p.bytes ∙ (λ j. (16 * digit_of (first j) + digit_of (second j)) ∷ pairs (drop-drop 2 i w j));
}
  where
    p : Pair (drop i w)
    p = a_pair (drop i w) (omega (arith, length-drop i w)) e

    first : get_or (drop i w) 0 0 ≡ get_or w i 0
    first = get_or-drop i w 0 0 ∙ ap (λ (n : ℕ). get_or w n 0) (omega arith)

    second : get_or (drop i w) 1 0 ≡ get_or w (i + 1) 0
    second = get_or-drop i w 1 0

-- The first k bytes are written, and the others are those of the digits from place i on.
pub record Decoded (w before after : List ℕ) (i k : ℕ) : Type 0 where
  pub hex : is_hex (drop i w) ≡ true
  pub left : drop k (pairs w) ≡ pairs (drop i w)
  pub below : k ≤ length (pairs w)
  pub fits : k ≤ length before
  pub shows : after ≡ take k (pairs w) ++ drop k before

pub decoded_none : (w before : List ℕ) → is_hex w ≡ true → Decoded w before before 0 0
decoded_none w before e = record { hex = e; left = refl; below = omega arith; fits = omega arith; shows = refl }

module _ (w before after : List ℕ) (i k : ℕ) (d : Decoded w before after i k) where
  pub same_length : length after ≡ length before
  same_length =
      let size : length (take k (pairs w)) ≡ k = length-take-le k (pairs w) d.below in
      let fits : k ≤ length before = d.fits in
      ap length d.shows ∙ simp (length-append, length-drop) (omega arith)

  more : i < length w → k < length after → Decoded w before (set after k (byte_at w i)) (i + 2) (k + 1)
  more h l = record {
    hex = s.hex;
    left = ap (λ (n : ℕ). drop n (pairs w)) (add-one k) ∙ rest;
    below = omega (arith, inside);
    fits = omega (arith, same_length);
    shows = ap (λ (a : List ℕ). set a k (byte_at w i)) d.shows ∙ put;
  }
    where
      s : Step w i
      s = step_at w i h d.hex

      begins : drop k (pairs w) ≡ byte_at w i ∷ pairs (drop (i + 2) w)
      begins = d.left ∙ s.bytes

      inside : k < length (pairs w)
      inside = omega (arith, length-drop k (pairs w), ap length begins)

      cons : get_or (pairs w) k 0 ∷ drop (suc k) (pairs w) ≡ byte_at w i ∷ pairs (drop (i + 2) w)
      cons = sym (drop-cons (pairs w) k 0 inside) ∙ begins

      byte : get_or (pairs w) k 0 ≡ byte_at w i
      byte = ap (λ (l : List ℕ). get_or l 0 0) cons

      rest : drop (suc k) (pairs w) ≡ pairs (drop (i + 2) w)
      rest = ap (λ (l : List ℕ). drop 1 l) cons

      put : set (take k (pairs w) ++ drop k before) k (byte_at w i) ≡ take (k + 1) (pairs w) ++ drop (k + 1) before
      put =
          ap (λ (l : List ℕ). set (take k (pairs w) ++ l) k (byte_at w i)) (drop-cons before k 0 (omega (arith, same_length)))
          ∙ set_at (take k (pairs w)) (get_or before k 0) (drop (suc k) before) (byte_at w i) k (length-take-le k (pairs w) d.below)
          ∙ sym (append_snoc (take k (pairs w)) (byte_at w i) (drop (suc k) before))
          ∙ ap (λ (b : ℕ). take k (pairs w) ++ (b ∷ []) ++ drop (suc k) before) (sym byte)
          ∙ ap (λ (l : List ℕ). l ++ drop (suc k) before) (sym (take-suc (pairs w) k 0 inside))
          ∙ ap (λ (n : ℕ). take n (pairs w) ++ drop n before) (sym (add-one k))

  -- The values of the two digits as they were computed.
  pub decoded_more : (a b : ℕ) → a ≡ digit_of (get_or w i 0) → b ≡ digit_of (get_or w (i + 1) 0) → i < length w → k < length after
      → Decoded w before (set after k (16 * a + b)) (i + 2) (k + 1)
  decoded_more a b e f h l =
      subst (λ (v : ℕ). Decoded w before (set after k v) (i + 2) (k + 1)) (λ j. 16 * sym e j + sym f j) (more h l)

  -- No digits are left, or no place.
  ended : take (length before) (pairs w) ≡ take k (pairs w) → Pasted (take (length before) (pairs w)) before after 0 k
  ended e =
      let size : length (take (length before) (pairs w)) ≡ k = ap length e ∙ length-take-le k (pairs w) d.below in
      front_of (sym size) (d.shows ∙ ap₂ (λ (l : List ℕ) (n : ℕ). l ++ drop n before) (sym e) (sym size))

length-pairs : (l : List ℕ) → length (pairs l) ≡ length l / 2
unfolding pairs
length-pairs [] = omega arith
length-pairs (a ∷ []) = omega arith
length-pairs (a ∷ b ∷ l) = omega (arith, length-pairs l)

-- Every pair of digits is decoded, or there is no place left.
pub decoded_all : (w before after : List ℕ) (k n : ℕ) → Decoded w before after (2 * k) k → n ≡ min (length before) (length w / 2) → k ≡ n
    → Pasted (take (length before) (pairs w)) before after 0 n
decoded_all w before after k n d e f =
    subst (λ (m : ℕ). Pasted (take (length before) (pairs w)) before after 0 m) f
    (ended w before after (2 * k) k d (go (dec_le (length before) (length (pairs w)))))
  where
    size : length (pairs w) ≡ length w / 2
    size = length-pairs w

    go : Dec (length before ≤ length (pairs w)) → take (length before) (pairs w) ≡ take k (pairs w)
    go (yes h) = let m : length before ≡ k = omega (arith, size) in ap (λ (m : ℕ). take m (pairs w)) m
    go (no h) = take_all (length before) (pairs w) (omega (arith, size)) ∙ sym (take_all k (pairs w) (omega (arith, size)))

-- A byte that is a digit has a value, and what is unwrapped is this value.
pub some_digit : (r : Option ℕ) (n : ℕ) → MatchOption r (n ≡ 16) (λ d. (d ≡ n) × (d < 16)) → n < 16 → IsSome r
some_digit None n e h = absurd (omega arith)
some_digit (Some d) n e h = refl

pub digit_read : (r : Option ℕ) (n d : ℕ) → MatchOption r (n ≡ 16) (λ d. (d ≡ n) × (d < 16)) → r ≡ Some d → d ≡ n
digit_read r n d e h = (subst (λ (o : Option ℕ). MatchOption o (n ≡ 16) (λ d. (d ≡ n) × (d < 16))) h e).0
