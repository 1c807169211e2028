-- The command of a line from its words, the bytes of its second word, and the lines that are no command.
use mathlib.Core.Path.{◌≡◌, refl, ap, ◌∙◌}
use mathlib.Core.Bool.{true, false}
use mathlib.Core.List.{List, [], ◌∷◌}
use Prim.Native.Nat.{ℕ, ◌≤◌, ◌<◌}
use native.Mathlib.Omega.{arith}
use lib.Dec.{eqb}
use lib.ListN.{length, take, get_or}
use lib.Seq.{take-nil}
use borrow.Author.Tests.{lt-ltb, le-ltb, eq-eqb, ne_eqb}
use Rattle.commands.specs.declared.Command.{Command}
use Rattle.commands.specs.declared.Command.TheVariants.{Blank, Error}
use Rattle.std.proofs.Common.{Option}
use Rattle.words.specs.Words.{words_of, Next}
use Rattle.arrays.specs.Paste.{Pasted}
use Rattle.arrays.proofs.paste.Parts.{front_same}
use Rattle.words.specs.Hex.{is_hex, pairs}
use Rattle.commands.specs.Commands.{of_numbers}
use Rattle.script.specs.Line.{of_file, with_file, of_words, is_blank, command_of, second, file_in_line}
use Rattle.arrays.specs.Text.{bytes}
use Rattle.arrays.specs.Same.{same_list}
use Rattle.arguments.specs.declared.Arguments.{Arguments}
use Rattle.arguments.specs.Arguments.{arguments_of}

-- A line with no word, and one with a name before the rest.
pub words_none : (line : List ℕ) → words_of line ≡ [] → Error ≡ of_words (words_of line)
unfolding of_words
words_none line e = rw e refl

module _ {line name rest : List ℕ} (n : Next line name rest) (r : Command) where
  pub words_read : same_list name (bytes "read") ≡ true → r ≡ with_file (words_of rest) → r ≡ of_words (words_of line)
  unfolding of_words
  words_read e f = rw (n.words, e) f

  pub words_named : same_list name (bytes "read") ≡ false → (a : Option Arguments) → a ≡ arguments_of (words_of rest) → r ≡ of_numbers name a
      → r ≡ of_words (words_of line)
  unfolding of_words
  words_named e a g f = rw (n.words, e) (f ∙ ap (of_numbers name) g)

-- The file of `read`, and what may follow.
pub word_missing : (words : List ℕ) → words_of words ≡ [] → Error ≡ with_file (words_of words)
unfolding with_file
word_missing words e = rw e refl

module _ {words word rest : List ℕ} (n : Next words word rest) where
  pub word_more : {x l : List ℕ} → Next rest x l → Error ≡ with_file (words_of words)
  unfolding with_file
  word_more m = rw (n.words, m.words) refl

  pub word_alone : words_of rest ≡ [] → (r : Command) → r ≡ of_file word → r ≡ with_file (words_of words)
  unfolding with_file
  word_alone e r f = rw (n.words, e) f

-- The bytes of the second word; there are none where there is no second word.
file_missing : (line before : List ℕ) → second (words_of line) ≡ [] → Pasted (take (length before) (file_in_line line)) before before 0 0
unfolding file_in_line is_hex pairs
file_missing line before e = rw (e, take-nil) (front_same 0 before (omega arith))

pub no_first : (line before : List ℕ) → words_of line ≡ [] → Pasted (take (length before) (file_in_line line)) before before 0 0
no_first line before e = file_missing line before (ap second e)

module _ {line name rest : List ℕ} (n : Next line name rest) (before : List ℕ) where
  pub no_second : words_of rest ≡ [] → Pasted (take (length before) (file_in_line line)) before before 0 0
  no_second e = file_missing line before (ap second (n.words ∙ ap (λ (l : List (List ℕ)). name ∷ l) e))

  module _ {word behind : List ℕ} (m : Next rest word behind) where
    second_is : second (words_of line) ≡ word
    second_is = ap second (n.words ∙ ap (λ (l : List (List ℕ)). name ∷ l) m.words)

    pub file_none : is_hex word ≡ false → Pasted (take (length before) (file_in_line line)) before before 0 0
    unfolding file_in_line
    file_none e = rw (second_is, e, take-nil) (front_same 0 before (omega arith))

    pub file_some : (after : List ℕ) (r : ℕ) → is_hex word ≡ true → Pasted (take (length before) (pairs word)) before after 0 r
        → Pasted (take (length before) (file_in_line line)) before after 0 r
    unfolding file_in_line
    file_some after r e f = rw (second_is, e) f

is_blank_lem : (line : List ℕ) → ¬ (length line ≡ 0) → is_blank line ≡ eqb (get_or line 0 0) 35
is_blank_lem [] n = absurd (n refl)
is_blank_lem (b ∷ l) n = refl

-- A line by its length and its first byte.
module _ (line : List ℕ) where
  pub too_long_lem : 4000 < length line → Error ≡ command_of line
  unfolding command_of
  too_long_lem h = rw (lt-ltb 4000 (length line) h) refl

  pub blank_empty : length line ≤ 4000 → length line ≡ 0 → Blank ≡ command_of line
  unfolding command_of
  blank_empty h e = rw (le-ltb 4000 (length line) h, empty line e) refl
    where
      empty : (l : List ℕ) → length l ≡ 0 → is_blank l ≡ true
      empty [] z = refl
      empty (b ∷ l) z = absurd (omega arith)

  pub blank_comment : length line ≤ 4000 → ¬ (length line ≡ 0) → get_or line 0 0 ≡ 35 → Blank ≡ command_of line
  unfolding command_of
  blank_comment h n e = rw (le-ltb 4000 (length line) h, is_blank_lem line n, eq-eqb (get_or line 0 0) 35 e) refl

  pub by_words : length line ≤ 4000 → ¬ (length line ≡ 0) → ¬ (get_or line 0 0 ≡ 35) → (r : Command) → r ≡ of_words (words_of line) → r ≡ command_of line
  unfolding command_of
  by_words h n e r f = rw (le-ltb 4000 (length line) h, is_blank_lem line n, ne_eqb (get_or line 0 0) 35 e) f
