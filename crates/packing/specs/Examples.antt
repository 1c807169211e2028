-- Examples: whole inputs, and what is printed for them. They show the bytes of a file and of the line of a fault.
use Rattle.std.specs.Prelude.{◌≡◌, ℕ}
use mathlib.Core.List.{List, [], ◌∷◌, ◌++◌, flatten}
use Prim.Native.String.{String}
use Rattle.arrays.specs.Beside.{beside}
use Rattle.arrays.specs.Set.{put, out, has, all}
use Rattle.arrays.specs.Text.{bytes}
use Rattle.plane.specs.Coordinate.{word16}
use Rattle.plane.specs.Point.{lower}
use Rattle.model.specs.Refusal.{first_failed}
use Rattle.model.specs.State.{prune_from, prune, insert}
use Rattle.model.specs.Call.{insert_refusal, step}
use Rattle.model.specs.Sections.{pairs_from, header, section_file}
use Rattle.model.specs.File.{section_of, plain_file_of}
use Rattle.model.specs.Listing.{digits_from}
use Rattle.words.specs.Words.{is_space, split}
use Rattle.numbers.specs.Numbers.{are_digits, value_from, number_of}
use Rattle.arguments.specs.Arguments.{numbers_of, arguments_of}
use Rattle.lines.specs.Lines.{lines_from, state_after}
use Rattle.pin_line.specs.PinLines.{is_plain, with_kind, of_numbers, of_text, pin_line_of}
use Rattle.packing.specs.Packing.{by_call, by_pin, pack_line, pack_input}
use Rattle.packing.specs.Printed.{Outputs, packed}

-- What is printed for inputs.
unfoldable pub printed_for : List String → List Outputs
unfolding beside put out has all word16 lower first_failed prune_from prune insert insert_refusal step pairs_from header section_file flatten section_of
    plain_file_of digits_from is_space split are_digits value_from number_of numbers_of arguments_of lines_from state_after is_plain with_kind of_numbers
    of_text pin_line_of by_call by_pin pack_line pack_input packed
printed_for [] = []
printed_for (s ∷ l) = packed (bytes s) ∷ printed_for l

-- An offset or a length below 256, in four bytes.
abbrev small : ℕ → List ℕ
small n = n ∷ 0 ∷ 0 ∷ 0 ∷ []

-- An input without a pin; two pins in falling order, one of them a display, behind a comment, with carriage returns, a tab and no line feed at the end.
abbrev pub Files : Type 0
Files =
    printed_for ("" ∷ "# two\r\n5 -3\r\n\t0 0 1" ∷ [])
    ≡ record { out = bytes "DECK" ++ (3 ∷ 0 ∷ []) ++ small 30 ++ small 0 ++ small 30 ++ small 0 ++ small 30 ++ small 0; err = [] }
    ∷ record {
      out = bytes "DECK" ++ (4 ∷ 0 ∷ []) ++ small 38 ++ small 8 ++ small 46 ++ small 0 ++ small 46 ++ small 0 ++ small 46 ++ small 2
          ++ (0 ∷ 0 ∷ 0 ∷ 0 ∷ 5 ∷ 0 ∷ 253 ∷ 255 ∷ []) ++ (1 ∷ 0 ∷ []);
      err = [];
    }
    ∷ []

-- A fault: a pin that is there, lines passed over that count, out of range, no kind, and the first of two.
abbrev pub fault : String → Outputs
fault s = record { out = []; err = bytes s }

abbrev pub Faults : Type 0
Faults =
    printed_for ("0 0\n#\n\n0 0 1\n" ∷ "30001 0" ∷ "0 0 3\n" ∷ "1 1\n1 1 1 1\n1 1\n" ∷ "1 1\n1 1\nx\n" ∷ [])
    ≡ fault "line 4: refused 8\n" ∷ fault "line 1: refused 7\n" ∷ fault "line 1: refused 15\n" ∷ fault "line 2: error\n" ∷ fault "line 2: refused 8\n" ∷ []
