-- What the program prints (SPEC 9.6): each number of a list with this line.
use Rattle.std.specs.Prelude.{List, [], ◌∷◌, ◌++◌, ℕ}
use Rattle.model.specs.Listing.{decimal, line_feed}

-- Room for a number of 64 bits and a line feed, and for 961 of them.
abbrev pub line_room : ℕ
line_room = 21

abbrev pub text_room : ℕ
text_room = 20181

-- A number in base ten and a line feed.
unfoldable pub number_line : ℕ → List ℕ
number_line n = decimal n ++ (line_feed ∷ [])
