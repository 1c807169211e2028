-- An example: a number, a coordinate, and a sign for which no number is left.
use Rattle.std.specs.Prelude.{◌≡◌, List, [], ◌∷◌, ℕ}
use Rattle.arrays.specs.Text.{bytes}
use Rattle.plane.specs.Coordinate.{coordinate}
use Rattle.model.specs.Listing.{digits_from, signed_decimal}
use Rattle.template.specs.Template.{item_text, numbers_left, filled}

unfoldable pub text : List ℕ → List ℕ → List ℕ
unfolding digits_from signed_decimal coordinate item_text numbers_left filled
text template numbers = filled template numbers

abbrev pub ThreeSigns : Type 0
ThreeSigns = text (bytes "a%b@c%") (5 ∷ 29997 ∷ []) ≡ bytes "a5b-3c%"
