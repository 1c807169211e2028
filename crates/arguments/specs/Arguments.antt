-- The numbers of words, up to five (SPEC 9.3): the arguments of a call.
use Rattle.std.specs.Prelude.{List, [], ◌∷◌, ℕ, ℤ, Option, None, Some}
use Rattle.std.specs.Option.{option_and_then}
use Rattle.arguments.specs.declared.Arguments.{Arguments}
use Rattle.arguments.specs.declared.Arguments.TheVariants.{Zero, One, Two, Three, Four, Five}
use Rattle.numbers.specs.Numbers.{number_of}

-- A number in front of others; none where one is missing.
abbrev pub before : Option ℤ → Option (List ℤ) → Option (List ℤ)
before None l = None
before (Some z) None = None
before (Some z) (Some l) = Some (z ∷ l)

-- The numbers of words; none where a word stands for no number.
unfoldable pub numbers_of : List (List ℕ) → Option (List ℤ)
numbers_of [] = Some []
numbers_of (w ∷ ws) = before (number_of w) (numbers_of ws)

-- Up to five numbers.
abbrev pub up_to_five : List ℤ → Option Arguments
up_to_five [] = Some Zero
up_to_five (i ∷ []) = Some (One i)
up_to_five (i ∷ j ∷ []) = Some (Two i j)
up_to_five (i ∷ j ∷ k ∷ []) = Some (Three i j k)
up_to_five (i ∷ j ∷ k ∷ l ∷ []) = Some (Four i j k l)
up_to_five (i ∷ j ∷ k ∷ l ∷ m ∷ []) = Some (Five i j k l m)
up_to_five (i ∷ j ∷ k ∷ l ∷ m ∷ n ∷ more) = None

-- The arguments that words are: their numbers, if each is one and there are five at most.
abbrev pub if_numbers : Option (List ℤ) → Option Arguments
if_numbers None = None
if_numbers (Some l) = up_to_five l

unfoldable pub arguments_of : List (List ℕ) → Option Arguments
arguments_of ws = if_numbers (numbers_of ws)

-- The same word by word, as a loop goes. One more number behind those so far; there is no sixth.
unfoldable pub appended : Arguments → ℤ → Option Arguments
appended Zero z = Some (One z)
appended (One i) z = Some (Two i z)
appended (Two i j) z = Some (Three i j z)
appended (Three i j k) z = Some (Four i j k z)
appended (Four i j k l) z = Some (Five i j k l z)
appended (Five i j k l m) z = None

-- One more word, which may stand for no number.
unfoldable pub with_word : Arguments → List ℕ → Option Arguments
with_word a w = option_and_then (appended a) (number_of w)

-- The words behind those so far.
unfoldable pub arguments_from : Arguments → List (List ℕ) → Option Arguments
arguments_from a [] = Some a
arguments_from a (w ∷ ws) = option_and_then (λ b. arguments_from b ws) (with_word a w)
