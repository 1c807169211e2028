-- The words of a line (SPEC 9.3): what stands between white space.
use Rattle.std.specs.Prelude.{◌≡◌, Bool, ◌||◌, List, [], ◌∷◌, ◌++◌, ℕ, suc, ◌<◌, eqb, length, take, drop}
use Rattle.arrays.specs.Test.{if}
use Rattle.arrays.specs.Text.{byte}

-- White space: tab, line feed, form feed, carriage return and space.
unfoldable pub is_space : ℕ → Bool
is_space b = eqb b (byte "\t") || (eqb b (byte "\n") || (eqb b (byte "\u{c}") || (eqb b (byte "\r") || eqb b (byte " "))))

-- The words w and ws, without w where it is empty.
abbrev pub ended : List ℕ → List (List ℕ) → List (List ℕ)
ended [] ws = ws
ended (b ∷ w) ws = (b ∷ w) ∷ ws

-- The words of the rest of a line, of whose present word w has been read.
unfoldable pub split : List ℕ → List ℕ → List (List ℕ)
split w [] = ended w []
split w (b ∷ l) = if (is_space b) (λ _. ended w (split [] l)) (λ _. split (w ++ (b ∷ [])) l)

-- The words of a line, each of one byte or more.
abbrev pub words_of : List ℕ → List (List ℕ)
words_of l = split [] l

-- How many bytes of white space a line begins with.
unfoldable pub spaces : List ℕ → ℕ
spaces [] = 0
spaces (b ∷ l) = if (is_space b) (λ _. suc (spaces l)) (λ _. 0)

-- How many bytes that are no white space a line begins with.
unfoldable pub letters : List ℕ → ℕ
letters [] = 0
letters (b ∷ l) = if (is_space b) (λ _. 0) (λ _. suc (letters l))

-- A line without the white space that it begins with.
abbrev pub without_spaces : List ℕ → List ℕ
without_spaces l = drop (spaces l) l

-- The first word of a line, and the rest behind it: where they stand, and that the words of the line are this one and those of the rest.
pub record Next (line word rest : List ℕ) : Type 0 where
  pub word_is : word ≡ take (letters (without_spaces line)) (without_spaces line)
  pub rest_is : rest ≡ drop (letters (without_spaces line)) (without_spaces line)
  pub words : words_of line ≡ word ∷ words_of rest
  pub shorter : length rest < length line
