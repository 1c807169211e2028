-- A file in hexadecimal, and a text of several lines on one line, as the script program answers them (SPEC 9.3).
use Rattle.std.specs.Prelude.{List, [], ◌∷◌, ◌++◌, ℕ, ◌+◌, ◌-◌, ◌/◌, ◌%◌, ltb, eqb, length, take, get_or}
use Rattle.arrays.specs.Paste.{each}
use Rattle.arrays.specs.Test.{if}
use Rattle.arrays.specs.Text.{bytes, byte}
use Rattle.model.specs.Listing.{field, decimal, line_feed}

-- The digit of a number below 16: 0 to 9, a to f.
abbrev pub hex_digit : ℕ → ℕ
hex_digit n = if (ltb n 10) (λ _. byte "0" + n) (λ _. byte "a" + (n - 10))

-- Two digits for each byte.
abbrev pub hex_pair : ℕ → List ℕ
hex_pair b = hex_digit (b / 16) ∷ hex_digit (b % 16) ∷ []

-- The word file, and the line of a file: `file LENGTH HEX`.
abbrev pub file_word : List ℕ
file_word = bytes "file"

abbrev pub file_text : List ℕ → List ℕ
file_text l = file_word ++ (field (decimal (length l)) ++ field (each hex_pair l))

-- A line feed becomes ` / `; any other byte stays.
abbrev pub spread : ℕ → List ℕ
spread b = if (eqb b line_feed) (λ _. bytes " / ") (λ _. b ∷ [])

-- How many bytes a text has without the line feed that ends it.
abbrev pub body_length : List ℕ → ℕ
body_length l = if (eqb (get_or l (length l - 1) 0) line_feed) (λ _. length l - 1) (λ _. length l)

-- The lines of a text, joined by ` / `.
abbrev pub joined_lines : List ℕ → List ℕ
joined_lines l = each spread (take (body_length l) l)
