-- Whole numbers of 32 bits, signed, as words (SPEC 9.3).
use Rattle.std.specs.Prelude.{Bool, true, false, ◌&&◌, List, [], ◌∷◌, ℕ, ◌+◌, ◌*◌, ◌-◌, leb, eqb, Option, None, Some, ℤ, pos, neg_ℤ}
use Rattle.arrays.specs.Test.{if}
use Rattle.arrays.specs.Text.{byte}

-- Whether every byte is a digit, 0 to 9.
unfoldable pub are_digits : List ℕ → Bool
are_digits [] = true
are_digits (b ∷ l) = leb (byte "0") b && (leb b (byte "9") && are_digits l)

-- The value of digits that follow digits of the value v.
unfoldable pub value_from : ℕ → List ℕ → ℕ
value_from v [] = v
value_from v (b ∷ l) = value_from (10 * v + (b - byte "0")) l

-- Whether a word is one digit or more, of a value that is at most `most`.
abbrev pub is_magnitude : ℕ → List ℕ → Bool
is_magnitude most [] = false
is_magnitude most (b ∷ l) = are_digits (b ∷ l) && leb (value_from 0 (b ∷ l)) most

-- Its value, if it is so.
unfoldable pub magnitude_of : ℕ → List ℕ → Option ℕ
magnitude_of most l = if (is_magnitude most l) (λ _. Some (value_from 0 l)) (λ _. None)

-- The largest number of 32 bits with a sign, and the smallest without its sign.
abbrev pub largest : ℕ
largest = 2147483647

abbrev pub smallest : ℕ
smallest = 2147483648

-- The number of a word: digits, with a minus sign before them or with none, of a value that 32 bits hold.
unfoldable pub number_of : List ℕ → Option ℤ
number_of [] = None
number_of (b ∷ l) =
    if (eqb b (byte "-"))
    (λ _. if (is_magnitude smallest l) (λ _. Some (neg_ℤ (pos (value_from 0 l)))) (λ _. None))
    (λ _. if (is_magnitude largest (b ∷ l)) (λ _. Some (pos (value_from 0 (b ∷ l)))) (λ _. None))
