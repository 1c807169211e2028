-- Examples: lines, and what they ask for. They show what the definitions say of a line.
use Rattle.std.specs.Prelude.{◌≡◌, List, [], ◌∷◌, ℕ, replicate, pos, negsuc}
use Prim.Native.String.{String}
use Rattle.arrays.specs.Set.{all}
use Rattle.arrays.specs.Text.{bytes, byte}
use Rattle.words.specs.Words.{is_space, split}
use Rattle.numbers.specs.Numbers.{are_digits, value_from, number_of}
use Rattle.arguments.specs.Arguments.{numbers_of, arguments_of}
use Rattle.pin_line.specs.declared.PinLine.{PinLine}
use Rattle.pin_line.specs.declared.PinLine.TheVariants.{Passed, Error, Pin}
use Rattle.pin_line.specs.PinLines.{is_plain, with_kind, of_numbers, of_text, pin_line_of}

-- What lines ask for.
unfoldable pub pin_lines : List String → List PinLine
unfolding all is_space split are_digits value_from number_of numbers_of arguments_of is_plain with_kind of_numbers of_text pin_line_of
pin_lines [] = []
pin_lines (s ∷ l) = pin_line_of (bytes s) ∷ pin_lines l

-- Pins: without a kind and with one, tabs and spaces around, one carriage return at the end, the least and the largest number, kinds that are none.
abbrev pub Pins : Type 0
Pins =
    pin_lines ("5 -3" ∷ "5 -3 2" ∷ "\t5\t \t-3 \t" ∷ "5 -3 2\r" ∷ "5 -3 \r" ∷ "-2147483648 2147483647" ∷ "1 2 0" ∷ "1 2 300" ∷ [])
    ≡ Pin (pos 5) (negsuc 2) 0 ∷ Pin (pos 5) (negsuc 2) 2 ∷ Pin (pos 5) (negsuc 2) 0 ∷ Pin (pos 5) (negsuc 2) 2 ∷ Pin (pos 5) (negsuc 2) 0
    ∷ Pin (negsuc 2147483647) (pos 2147483647) 0 ∷ Pin (pos 1) (pos 2) 0 ∷ Pin (pos 1) (pos 2) 300 ∷ []

-- Passed over: a comment, also with a carriage return inside; no byte, spaces and tabs alone, with a carriage return at the end.
abbrev pub PassedOver : Type 0
PassedOver = pin_lines ("#" ∷ "# 5 3" ∷ "#\r5 3" ∷ "" ∷ " \t " ∷ "\r" ∷ " \r" ∷ []) ≡ replicate 7 Passed

-- Errors: a number missing, one too many, a kind that is negative, a plus sign, a number of more than 32 bits, another word, a comment behind a space;
-- a carriage return or a form feed inside, two carriage returns at the end.
abbrev pub Errors : Type 0
Errors =
    pin_lines ("5" ∷ "5 3 1 1" ∷ "1 2 3 4 5" ∷ "1 2 3 4 5 6" ∷ "5 3 -1" ∷ "+5 3" ∷ "5 +3" ∷ "2147483648 0" ∷ "5 3 x" ∷ "5,3" ∷ " # 5 3"
    ∷ "5\r3" ∷ "5 \r 3" ∷ "5\u{c}3" ∷ "\u{c}" ∷ "5 3\r\r" ∷ "\r\r" ∷ [])
    ≡ replicate 17 Error

-- Lines of 4,000 bytes and of one more: spaces alone, and a comment.
unfoldable pub long_lines : ℕ → List PinLine
unfolding all is_space split is_plain arguments_of numbers_of of_numbers of_text pin_line_of
long_lines n = pin_line_of (replicate n (byte " ")) ∷ pin_line_of (byte "#" ∷ replicate n (byte " ")) ∷ []

abbrev pub LongestLine : Type 0
LongestLine = long_lines 4000 ≡ Passed ∷ Passed ∷ []

abbrev pub TooLong : Type 0
TooLong = long_lines 4001 ≡ Error ∷ Passed ∷ []
