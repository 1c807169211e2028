-- The pin of a line of coordinates (SPEC 9.7).
use Rattle.std.specs.Prelude.{Bool, false, not, ◌||◌, List, [], ◌∷◌, ℕ, ◌-◌, ltb, eqb, ℤ, length, take, get_or, Option, None, Some}
use Rattle.arrays.specs.Set.{all}
use Rattle.arrays.specs.Test.{if, if_natural}
use Rattle.arrays.specs.Text.{byte}
use Rattle.lines.specs.Lines.{line_limit}
use Rattle.arguments.specs.declared.Arguments.{Arguments}
use Rattle.arguments.specs.declared.Arguments.TheVariants.{Zero, One, Two, Three, Four, Five}
use Rattle.words.specs.Words.{words_of}
use Rattle.arguments.specs.Arguments.{arguments_of}
use Rattle.pin_line.specs.declared.PinLine.{PinLine}
use Rattle.pin_line.specs.declared.PinLine.TheVariants.{Passed, Error, Pin}

-- Whether a line begins with `#`; it is passed over then, whatever its length.
abbrev pub is_comment : List ℕ → Bool
is_comment [] = false
is_comment (b ∷ l) = eqb b (byte "#")

-- How many bytes a line has without the carriage return that ends it.
abbrev pub text_length : List ℕ → ℕ
text_length l = if (eqb (get_or l (length l - 1) 0) (byte "\r")) (λ _. length l - 1) (λ _. length l)

-- Whether a byte is neither a form feed nor a carriage return: these are white space between words (SPEC 9.3), and none here.
unfoldable pub is_plain : ℕ → Bool
is_plain b = not (eqb b (byte "\u{c}") || eqb b (byte "\r"))

-- `X Y KIND`, of which the third is not negative.
unfoldable pub with_kind : ℤ → ℤ → ℤ → PinLine
with_kind x y kind = if_natural (Pin x y) Error kind

-- The numbers of a line: no word is passed over, two are a sensor, three a device of a kind.
unfoldable pub of_numbers : Option Arguments → PinLine
of_numbers (Some Zero) = Passed
of_numbers (Some (One i)) = Error
of_numbers (Some (Two x y)) = Pin x y 0
of_numbers (Some (Three x y kind)) = with_kind x y kind
of_numbers (Some (Four i j k l)) = Error
of_numbers (Some (Five i j k l m)) = Error
of_numbers None = Error

-- A line without the carriage return that ends it.
unfoldable pub of_text : List ℕ → PinLine
of_text t = if (all is_plain t) (λ _. of_numbers (arguments_of (words_of t))) (λ _. Error)

-- What a line asks for, which has no line feed. A line of more than 4,000 bytes is an error.
unfoldable pub pin_line_of : List ℕ → PinLine
pin_line_of line =
    if (is_comment line) (λ _. Passed)
    (λ _. if (ltb line_limit (length line)) (λ _. Error) (λ _. of_text (take (text_length line) line)))
