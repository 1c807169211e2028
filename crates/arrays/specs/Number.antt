-- Numbers in bytes, little-endian.
use Rattle.std.specs.Prelude.{List, [], ◌∷◌, ℕ, ◌+◌, ◌*◌, ◌/◌, ◌%◌, get_or}

-- A number in two and in four bytes.
abbrev pub bytes2 : ℕ → List ℕ
bytes2 n = n % 256 ∷ n / 256 % 256 ∷ []

abbrev pub bytes4 : ℕ → List ℕ
bytes4 n = n % 256 ∷ n / 256 % 256 ∷ n / 65536 % 256 ∷ n / 16777216 % 256 ∷ []

-- The number in the two and in the four bytes from place i on.
abbrev pub number2 : List ℕ → ℕ → ℕ
number2 b i = get_or b i 0 + 256 * get_or b (i + 1) 0

abbrev pub number4 : List ℕ → ℕ → ℕ
number4 b i = number2 b i + 65536 * number2 b (i + 2)
