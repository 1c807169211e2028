-- An input byte by byte (SPEC 9.3, 9.5, 9.7): the line so far, the lines of an input, and a state that each line changes.
use Rattle.std.specs.Prelude.{◌≡◌, List, [], ◌∷◌, ◌++◌, ℕ, ltb, eqb, length}
use Rattle.arrays.specs.Test.{if}
use Rattle.arrays.specs.Text.{byte}

-- The most bytes of a line, and how many are kept: one more, which makes it an error already.
abbrev pub line_limit : ℕ
line_limit = 4000

abbrev pub input_room : ℕ
input_room = 4001

-- One more byte of a line, as far as it is kept.
abbrev pub more : ℕ → List ℕ → List ℕ
more b l = if (ltb (length l) input_room) (λ _. l ++ (b ∷ [])) (λ _. l)

-- The lines of an input, each ended by a line feed, and what stands behind the last; of each as much as is kept.
pub record Lines : Type 0 where
  pub whole : List (List ℕ)
  pub rest : List ℕ

abbrev pub before : List ℕ → Lines → Lines
before l ls = record { whole = l ∷ ls.whole; rest = ls.rest }

-- The lines of the bytes, where l is what was read of the first one already.
unfoldable pub lines_from : List ℕ → List ℕ → Lines
lines_from l [] = record { whole = []; rest = l }
lines_from l (b ∷ bs) = if (eqb b (byte "\n")) (λ _. before l (lines_from [] bs)) (λ _. lines_from (more b l) bs)

-- What stands behind the last line feed is a line too, if it has a byte.
abbrev pub last_line : List ℕ → List (List ℕ)
last_line [] = []
last_line (b ∷ l) = (b ∷ l) ∷ []

-- All lines of an input.
abbrev pub all_lines : List ℕ → List (List ℕ)
all_lines input = let ls = lines_from [] input in ls.whole ++ last_line ls.rest

-- A state that lines change, and the line so far. What a line does to a state is said by a function.
pub record Reading (S : Type 0) : Type 0 where
  pub state : S
  pub line : List ℕ

-- One more byte: a line feed ends a line.
unfoldable pub taken : {S : Type 0} → (S → List ℕ → S) → Reading S → ℕ → Reading S
taken f r b = if (eqb b (byte "\n")) (λ _. record { state = f r.state r.line; line = [] }) (λ _. record { state = r.state; line = more b r.line })

-- All bytes of a list, one after the other.
unfoldable pub taken_all : {S : Type 0} → (S → List ℕ → S) → Reading S → List ℕ → Reading S
taken_all f r [] = r
taken_all f r (b ∷ bs) = taken_all f (taken f r b) bs

-- The state after these lines, one after the other.
unfoldable pub state_after : {S : Type 0} → (S → List ℕ → S) → S → List (List ℕ) → S
state_after f s [] = s
state_after f s (l ∷ ls) = state_after f (f s l) ls

-- The claim: taking the bytes of an input does its lines in their order, and leaves what stands behind the last.
abbrev pub LinesTaken : Type 1
LinesTaken =
    (S : Type 0) (f : S → List ℕ → S) (s : S) (input : List ℕ) → let ls = lines_from [] input in
    taken_all f (record { state = s; line = [] }) input ≡ record { state = state_after f s ls.whole; line = ls.rest }

-- With what stands behind the last line feed, it does all lines.
abbrev pub AllLinesTaken : Type 1
AllLinesTaken =
    (S : Type 0) (f : S → List ℕ → S) (s : S) (input : List ℕ) → let r = taken_all f (record { state = s; line = [] }) input in
    state_after f r.state (last_line r.line) ≡ state_after f s (all_lines input)

-- Two chunks of an input taken one after the other are the input.
abbrev pub ChunksTaken : Type 1
ChunksTaken =
    (S : Type 0) (f : S → List ℕ → S) (r : Reading S) (l m : List ℕ) → taken_all f r (l ++ m) ≡ taken_all f (taken_all f r l) m
