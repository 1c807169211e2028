-- Bytes as pairs of hexadecimal digits (SPEC 9.3).
use Rattle.std.specs.Prelude.{Bool, true, false, ◌&&◌, List, [], ◌∷◌, ℕ, ◌+◌, ◌*◌, ◌-◌, leb, ltb}
use Rattle.arrays.specs.Test.{if}
use Rattle.arrays.specs.Text.{byte}

-- The value of a hexadecimal digit, 0 to 9, A to F and a to f; 16 where a byte is none.
unfoldable pub digit_of : ℕ → ℕ
digit_of b =
    if (leb (byte "0") b && leb b (byte "9"))
    (λ _. b - byte "0")
    (λ _. if (leb (byte "A") b && leb b (byte "F"))
    (λ _. 10 + (b - byte "A"))
    (λ _. if (leb (byte "a") b && leb b (byte "f")) (λ _. 10 + (b - byte "a")) (λ _. 16)))

-- Whether a word is hexadecimal digits, an even number of them.
unfoldable pub is_hex : List ℕ → Bool
is_hex [] = true
is_hex (a ∷ []) = false
is_hex (a ∷ b ∷ l) = ltb (digit_of a) 16 && (ltb (digit_of b) 16 && is_hex l)

-- The bytes of pairs of digits, the higher digit first.
unfoldable pub pairs : List ℕ → List ℕ
pairs [] = []
pairs (a ∷ []) = []
pairs (a ∷ b ∷ l) = (16 * digit_of a + digit_of b) ∷ pairs l
