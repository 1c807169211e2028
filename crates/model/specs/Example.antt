-- The example of SPEC 7.7 and 9.2: a plain file with pins (0,0), (5,8), (10,0), and its listing.
use Rattle.std.specs.Prelude.{◌≡◌, List, [], ◌∷◌, ◌++◌, ℕ}
use Prim.Native.String.{String}
use Rattle.arrays.specs.Text.{bytes, byte}
use Rattle.model.specs.Decks.{play, filed, lengths_of, pair}
use Rattle.model.specs.Listing.{digits_from, signed_decimal, tap_lines, run_lines, listing, listing_of_file}

-- The bytes of the file: its four letters, three sections, the offset and length of each, the pins.
unfoldable pub example_file : List ℕ
example_file =
    bytes "DECK" ++ (3 ∷ 0 ∷ []) ++ pair 30 12 ++ pair 42 0 ++ pair 42 0
    ++ (0 ∷ 0 ∷ 0 ∷ 0 ∷ 5 ∷ 0 ∷ 8 ∷ 0 ∷ 10 ∷ 0 ∷ 0 ∷ 0 ∷ [])

-- Lines as bytes, each with a line feed behind it.
abbrev pub lines : List String → List ℕ
lines [] = []
lines (t ∷ l) = bytes t ++ (byte "\n" ∷ lines l)

-- The text of the listing.
unfoldable pub example_text : List ℕ
example_text =
    lines
    ("deck 3 1 18"
    ∷ "kinds 18 0 0"
    ∷ "tap 5 0"
    ∷ "run 0 0 5 0 5"
    ∷ "run 5 0 5 8 8"
    ∷ "run 5 0 10 0 5"
    ∷ [])

-- What the listing program answers for a file.
unfoldable pub listing_answer : List ℕ → List ℕ
unfolding play filed lengths_of digits_from signed_decimal tap_lines run_lines listing listing_of_file
listing_answer b = listing_of_file b

-- The listing of the file is the text.
abbrev pub ExampleListing : Type 0
ExampleListing = listing_answer example_file ≡ example_text
