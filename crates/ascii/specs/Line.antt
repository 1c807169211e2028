-- Lines of one word, and of a word and a number, at the front of an array, without the line feed (SPEC 9.3, 9.4).
use Rattle.std.specs.Prelude.{List, ◌++◌, ℕ}
use Rattle.arrays.specs.Text.{bytes}
use Rattle.model.specs.Listing.{field, decimal}

-- Room for any line.
abbrev pub line_room : ℕ
line_room = 128

-- The line of an error.
abbrev pub error_word : List ℕ
error_word = bytes "error"

-- A word and a number.
abbrev pub number_text : List ℕ → ℕ → List ℕ
number_text w n = w ++ field (decimal n)
