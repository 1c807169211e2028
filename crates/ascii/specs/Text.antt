-- A text at the front of an array.
use Rattle.std.specs.Prelude.{List, [], ℕ, leb, length}
use Rattle.arrays.specs.Test.{if}

-- The most digits of a number of 64 bits. Room for a number with a sign, with a space in front, and with both; and for three with a space in front.
abbrev pub most_digits : ℕ
most_digits = 20

abbrev pub signed_room : ℕ
signed_room = 21

abbrev pub field_room : ℕ
field_room = 21

abbrev pub signed_field_room : ℕ
signed_field_room = 22

abbrev pub fields_room : ℕ
fields_room = 63

-- Room for the line of a refusal.
abbrev pub refused_room : ℕ
refused_room = 29

-- Room for what stands in front of a file in its line: a word and its length.
abbrev pub file_head_room : ℕ
file_head_room = 64

-- The text, where the slice has room for the longest of its kind; else nothing.
abbrev pub fitting : ℕ → List ℕ → List ℕ → List ℕ
fitting room before text = if (leb room (length before)) (λ _. text) (λ _. [])
