-- Texts with places for numbers (SPEC 9.9).
use Rattle.std.specs.Prelude.{◌≡◌, List, [], ◌∷◌, ◌++◌, ℕ, ◌+◌, ◌*◌, ◌-◌, ◌%◌, ◌≤◌, eqb, length, drop}
use Rattle.arrays.specs.Test.{if}
use Rattle.arrays.specs.Text.{byte}
use Rattle.arrays.specs.Paste.{Pasted}
use Rattle.plane.specs.Coordinate.{base, coordinate}
use Rattle.model.specs.Listing.{decimal, signed_decimal}
use Rattle.template.specs.declared.Place.{Place}

-- Room for a number with a sign.
abbrev pub number_room : ℕ
number_room = 21

-- What stands for the next number, and for the coordinate that its last 16 bits are the stored form of.
abbrev pub number_sign : ℕ
number_sign = byte "%"

abbrev pub coordinate_sign : ℕ
coordinate_sign = byte "@"

abbrev pub coordinate_text : ℕ → List ℕ
coordinate_text n = signed_decimal (coordinate (n % base))

-- A case for each sign, and one for any other byte.
abbrev pub by_sign : {A : Type 0} → ℕ → (Unit {0} → A) → (Unit {0} → A) → (Unit {0} → A) → A
by_sign b number place other = if (eqb b number_sign) number (λ _. if (eqb b coordinate_sign) place other)

-- What a byte of a template becomes, with the numbers that are left; and the numbers that it leaves. Without numbers a sign is a byte as any other.
unfoldable pub item_text : ℕ → List ℕ → List ℕ
item_text b [] = b ∷ []
item_text b (n ∷ ns) = by_sign b (λ _. decimal n) (λ _. coordinate_text n) (λ _. b ∷ [])

unfoldable pub numbers_left : ℕ → List ℕ → List ℕ
numbers_left b [] = []
numbers_left b (n ∷ ns) = by_sign b (λ _. ns) (λ _. ns) (λ _. n ∷ ns)

-- A template with numbers in the places of its signs.
unfoldable pub filled : List ℕ → List ℕ → List ℕ
filled [] ns = []
filled (b ∷ t) ns = item_text b ns ++ filled t (numbers_left b ns)

-- One byte is put from place `at` on, where the first `used` numbers were used: r says where the text goes on, and how many are used then. A number
-- takes the room of one, any other byte that of a byte.
pub record Puts (b : ℕ) (numbers before after : List ℕ) (at used : ℕ) (r : Place) : Type 0 where
  pub text : Pasted (item_text b (drop used numbers)) before after at r.next
  pub left : drop r.used numbers ≡ numbers_left b (drop used numbers)
  pub within : r.used ≤ length numbers
  pub room : r.next + number_room * (length numbers - r.used) ≤ at + 1 + number_room * (length numbers - used)
