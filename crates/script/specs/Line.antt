-- The command of a line (SPEC 9.3, 9.5).
use Rattle.std.specs.Prelude.{Bool, true, ◌||◌, List, [], ◌∷◌, ℕ, ltb, eqb, length}
use Rattle.arrays.specs.Test.{if}
use Rattle.commands.specs.declared.Command.{Command}
use Rattle.commands.specs.declared.Command.TheVariants.{Blank, Error, Read}
use Rattle.commands.specs.Commands.{of_numbers}
use Rattle.arrays.specs.Text.{bytes, byte}
use Rattle.arrays.specs.Same.{same_list}
use Rattle.lines.specs.Lines.{line_limit}
use Rattle.words.specs.Words.{words_of}
use Rattle.arguments.specs.Arguments.{arguments_of}
use Rattle.words.specs.Hex.{is_hex, pairs}

-- `read HEX`: one word of hexadecimal digits in pairs, or `-` for no bytes.
unfoldable pub of_file : List ℕ → Command
of_file x = if (same_list x (bytes "-") || is_hex x) (λ _. Read) (λ _. Error)

unfoldable pub with_file : List (List ℕ) → Command
with_file [] = Error
with_file (x ∷ []) = of_file x
with_file (x ∷ y ∷ l) = Error

-- The command of a line's words: `read` and its file, or a name and numbers.
unfoldable pub of_words : List (List ℕ) → Command
of_words [] = Error
of_words (w ∷ l) = if (same_list w (bytes "read")) (λ _. with_file l) (λ _. of_numbers w (arguments_of l))

-- Whether a line is empty or a comment, which begins with `#`.
abbrev pub is_blank : List ℕ → Bool
is_blank [] = true
is_blank (b ∷ l) = eqb b (byte "#")

-- The command of a line, which has no line feed. A line of more than 4,000 bytes is an error.
unfoldable pub command_of : List ℕ → Command
command_of line =
    if (ltb line_limit (length line)) (λ _. Error)
    (λ _. if (is_blank line) (λ _. Blank) (λ _. of_words (words_of line)))

-- The second word, empty where there is none.
abbrev pub second : List (List ℕ) → List ℕ
second [] = []
second (w ∷ []) = []
second (w ∷ x ∷ l) = x

-- The bytes that the second word of a line stands for: none where it is not pairs of hexadecimal digits.
unfoldable pub file_in_line : List ℕ → List ℕ
file_in_line line = let x = second (words_of line) in if (is_hex x) (λ _. pairs x) (λ _. [])
