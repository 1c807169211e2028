-- Examples: lines and their commands, taken and refused, and the bytes of a file. They show what the definitions say of a line.
use Rattle.std.specs.Prelude.{◌≡◌, List, [], ◌∷◌, ℕ, replicate, pos, negsuc}
use Prim.Native.String.{String}
use Rattle.commands.specs.declared.Command.{Command}
use Rattle.commands.specs.declared.Command.TheVariants.{Blank, Error, Read, Write, Call, Ask, Direct}
use Rattle.commands.specs.declared.Change.TheVariants.{Add, Withdraw, Round, Finish, Tail}
use Rattle.commands.specs.declared.Query.TheVariants.{Run, Kinds, Column}
use Rattle.commands.specs.declared.Direction.TheVariants.{Octant, Arrow, Glyph}
use Rattle.arrays.specs.Text.{bytes}
use Rattle.words.specs.Words.{is_space, split}
use Rattle.numbers.specs.Numbers.{are_digits, value_from, number_of}
use Rattle.arguments.specs.Arguments.{numbers_of, arguments_of}
use Rattle.words.specs.Hex.{digit_of, is_hex, pairs}
use Rattle.commands.specs.Commands.{question_word, of_one_word, with_size, with_natural, with_number, with_pair, with_kind}
use Rattle.commands.specs.Commands.{with_three, is_short, are_short, with_places, with_five}
use Rattle.commands.specs.Commands.{of_numbers}
use Rattle.script.specs.Line.{of_file, with_file, of_words, command_of, file_in_line}

-- The commands of lines.
unfoldable pub commands : List String → List Command
unfolding is_space split are_digits value_from number_of numbers_of arguments_of digit_of is_hex question_word of_one_word with_size
    with_natural with_number with_pair with_kind with_three is_short are_short with_places with_five of_numbers of_file with_file of_words command_of
commands [] = []
commands (s ∷ l) = command_of (bytes s) ∷ commands l

-- The least and the largest number, kinds of which some are none, leading zeros and minus zero, any white space, both cases of hexadecimal digits, no
-- bytes; places of 16 bits at both ends, with the largest pitch of 32 bits; the glyph of a negative number; tails, of which some are too long; the
-- columns of a positive and a negative x.
abbrev pub Taken : Type 0
Taken =
    commands ("add -2147483648 2147483647" ∷ "add 1 2 0" ∷ "add 1 2 2" ∷ "add 1 2 300" ∷ "add 1 2 2147483647"
    ∷ "withdraw -0 0000000000042" ∷ "  octant\t1  -1\r" ∷ "round" ∷ "finish " ∷ "run 0"
    ∷ "write" ∷ "write 80" ∷ "read 00fFA9" ∷ "read -" ∷ "" ∷ "# round" ∷ "arrow -32768 32767 1 -2 2147483647" ∷ "glyph -1" ∷ "glyph 8" ∷ "kinds"
    ∷ "tail 500" ∷ "tail 2147483647" ∷ "column 10" ∷ "column -5" ∷ [])
    ≡ Call (Add (negsuc 2147483647) (pos 2147483647) 0) ∷ Call (Add (pos 1) (pos 2) 0) ∷ Call (Add (pos 1) (pos 2) 2)
    ∷ Call (Add (pos 1) (pos 2) 300) ∷ Call (Add (pos 1) (pos 2) 2147483647)
    ∷ Call (Withdraw (pos 0) (pos 42)) ∷ Direct (Octant (pos 1) (negsuc 0)) ∷ Call Round
    ∷ Call Finish ∷ Ask (Run 0) ∷ Write 856 ∷ Write 80 ∷ Read ∷ Read ∷ Blank ∷ Blank
    ∷ Direct (Arrow (negsuc 32767) (pos 32767) (pos 1) (negsuc 1) (pos 2147483647)) ∷ Direct (Glyph (negsuc 0)) ∷ Direct (Glyph (pos 8))
    ∷ Ask Kinds ∷ Call (Tail 500) ∷ Call (Tail 2147483647) ∷ Ask (Column (pos 10)) ∷ Ask (Column (negsuc 4)) ∷ []

-- Numbers of more than 32 bits, a negative kind, a plus sign, a sign alone, a word more or less, another case, a negative size, white space alone; places of
-- more than 16 bits, each of the four; three to eight numbers behind a name that has others.
abbrev pub Refused : Type 0
Refused =
    commands ("add 2147483648 0" ∷ "add -2147483649 0" ∷ "add +1 2" ∷ "add - 2" ∷ "add --1 2" ∷ "add 1" ∷ "add 1 2 -1"
    ∷ "add 1 2 2147483648" ∷ "withdraw 1 2 0" ∷ "round 1"
    ∷ "Round" ∷ "rounds" ∷ "run -1" ∷ "write 1a" ∷ "read" ∷ "read 0" ∷ "read 0g" ∷ "read --" ∷ " " ∷ " # round"
    ∷ "arrow 32768 0 0 0 1" ∷ "arrow 0 -32769 0 0 1" ∷ "arrow 0 0 32768 0 1" ∷ "arrow 0 0 0 -32769 1" ∷ "arrow 0 0 0 0" ∷ "arrow 0 0 0 0 1 1"
    ∷ "kinds 0" ∷ "kind" ∷ "Kinds" ∷ "arrow 0 0 0 0 x" ∷ "glyph" ∷ "glyph 1 2" ∷ "read 00 00"
    ∷ "add x 1 2" ∷ "add 1 2 3 4" ∷ "octant 1 2 3 4 5" ∷ "round 1 2 3 4 5 6" ∷ "run 1 2 3 4 5 6" ∷ "add 1 2 3 4 5 6" ∷ "add 1 2 3 4 5 6 7 8"
    ∷ "tail" ∷ "tail -1" ∷ "tail 1 2" ∷ "tail 2147483648" ∷ "tails 1" ∷ "column" ∷ "column 1 2" ∷ "column x" ∷ [])
    ≡ replicate 48 Error

-- The bytes of a file.
unfoldable pub files : List String → List (List ℕ)
unfolding is_space split digit_of is_hex pairs file_in_line
files [] = []
files (s ∷ l) = file_in_line (bytes s) ∷ files l

abbrev pub Files : Type 0
Files = files ("read 00fFA9" ∷ "read -" ∷ "read 0" ∷ "read" ∷ []) ≡ (0 ∷ 255 ∷ 169 ∷ []) ∷ [] ∷ [] ∷ [] ∷ []
