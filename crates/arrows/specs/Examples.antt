-- An example: the lines of two numbers.
use Rattle.std.specs.Prelude.{◌≡◌, List, [], ◌∷◌, ℕ}
use Rattle.arrays.specs.Paste.{each}
use Rattle.arrays.specs.Text.{bytes}
use Rattle.model.specs.Listing.{digits_from}
use Rattle.arrows.specs.Text.{number_line}

unfoldable pub lines : List ℕ → List ℕ
unfolding each digits_from number_line
lines l = each number_line l

abbrev pub TwoLines : Type 0
TwoLines = lines (5 ∷ 8 ∷ []) ≡ bytes "5\n8\n"
