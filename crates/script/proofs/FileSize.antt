-- For the caller: the file of a line that asks for a reading is at most 1,000 bytes long, so a buffer of 1,000 holds all of it.
-- The words of a line are together no longer than the line, and a byte takes two digits.
use mathlib.Core.Path.{◌≡◌, refl}
use mathlib.Core.Bool.{Bool, true, false}
use mathlib.Core.List.{List, [], ◌∷◌, ◌++◌}
use Prim.Native.Nat.{ℕ, ◌+◌, ◌*◌, ◌≤◌}
use native.Mathlib.Omega.{arith}
use lib.Dec.{ltb}
use lib.ListN.{length, length-append}
use borrow.Author.Tests.{ltb-false}
use Rattle.arrays.specs.Test.{if}
use Rattle.commands.specs.declared.Command.TheVariants.{Blank, Error, Read}
use Rattle.words.specs.Words.{is_space, ended, split, words_of}
use Rattle.words.specs.Hex.{is_hex, pairs}
use Rattle.script.specs.Line.{of_words, is_blank, command_of, second, file_in_line}

-- The lengths of words, added up.
unfoldable total : List (List ℕ) → ℕ
total [] = 0
total (w ∷ ws) = length w + total ws

total-ended : (w : List ℕ) (ws : List (List ℕ)) → total (ended w ws) ≡ length w + total ws
unfolding total
total-ended [] ws = omega arith
total-ended (b ∷ w) ws = refl

total-split : (w l : List ℕ) → total (split w l) ≤ length w + length l
unfolding total split
total-split w [] = omega (arith, total-ended w [])
total-split w (b ∷ l) = go (is_space b) (total-split [] l) (total-split (w ++ (b ∷ [])) l)
  where
    go : (t : Bool) → total (split [] l) ≤ 0 + length l → total (split (w ++ (b ∷ [])) l) ≤ length (w ++ (b ∷ [])) + length l
        → total (if t (λ _. ended w (split [] l)) (λ _. split (w ++ (b ∷ [])) l)) ≤ length w + length (b ∷ l)
    go true h k = omega (arith, total-ended w (split [] l))
    go false h k = omega (arith, length-append w (b ∷ []))

second_short : (ws : List (List ℕ)) → length (second ws) ≤ total ws
unfolding total
second_short [] = omega arith
second_short (w ∷ []) = omega arith
second_short (w ∷ x ∷ l) = omega arith

pairs-short : (l : List ℕ) → 2 * length (pairs l) ≤ length l
unfolding pairs
pairs-short [] = omega arith
pairs-short (a ∷ []) = omega arith
pairs-short (a ∷ b ∷ l) = omega (arith, pairs-short l)

pub file-short : (line : List ℕ) → 2 * length (file_in_line line) ≤ length line
unfolding file_in_line
file-short line = go (is_hex (second (words_of line)))
  where
    go : (t : Bool) → 2 * length (if t (λ _. pairs (second (words_of line))) (λ _. [])) ≤ length line
    go true = omega (arith, pairs-short (second (words_of line)), second_short (words_of line), total-split [] line)
    go false = omega arith

-- A line that is a command is at most 2,000 bytes long.
read-long : (line : List ℕ) → command_of line ≡ Read → length line ≤ 4000
unfolding command_of
read-long line e = go (ltb 4000 (length line)) (ltb-false 4000 (length line)) e
  where
    go : (t : Bool) → (t ≡ false → length line ≤ 4000)
        → if t (λ _. Error) (λ _. if (is_blank line) (λ _. Blank) (λ _. of_words (words_of line))) ≡ Read → length line ≤ 4000
    go true f g = let z : ◌≡◌ {A = ℕ} 0 1 = cc in absurd (omega arith)
    go false f g = f refl

pub read_fits : (line : List ℕ) → command_of line ≡ Read → length (file_in_line line) ≤ 2000
read_fits line e = omega (arith, file-short line, read-long line e)
