-- A line by the tests of the code, one after the other.
use mathlib.Core.Path.{◌≡◌, refl, ap, ap₂}
use mathlib.Core.Bool.{Bool, true, false, not, ◌&&◌, ◌||◌}
use mathlib.Core.List.{List, [], ◌∷◌}
use Prim.Native.Nat.{ℕ, ◌≤◌, ◌<◌}
use lib.Dec.{eqb}
use lib.ListN.{length, take}
use borrow.Author.Tests.{lt-ltb, le-ltb}
use Rattle.arrays.specs.Set.{all}
use Rattle.std.proofs.Common.{Option}
use Rattle.std.specs.List.{list_all}
use Rattle.arguments.specs.declared.Arguments.{Arguments}
use Rattle.words.specs.Words.{words_of}
use Rattle.arguments.specs.Arguments.{arguments_of}
use Rattle.pin_line.specs.declared.PinLine.TheVariants.{Passed, Error}
use Rattle.pin_line.specs.PinLines.{is_comment, text_length, is_plain, of_numbers, of_text, pin_line_of}

-- All bytes, by the library's walk over them.
pub all-is : (t : List ℕ) → list_all (λ b. not (eqb b 12) && not (eqb b 13)) t ≡ all is_plain t
unfolding all is_plain
all-is [] = refl
all-is (b ∷ t) = ap₂ (λ p q. p && q) (one (eqb b 12) (eqb b 13)) (all-is t)
  where
    one : (p q : Bool) → (not p && not q) ≡ not (p || q)
    one true q = refl
    one false q = refl

-- The text of a line.
module _ (t : List ℕ) where
  pub text_broken : all is_plain t ≡ false → Error ≡ of_text t
  unfolding of_text
  text_broken e = rw e refl

  pub text-plain : all is_plain t ≡ true → (a : Option Arguments) → a ≡ arguments_of (words_of t) → of_numbers a ≡ of_text t
  unfolding of_text
  text-plain e a f = rw e (ap of_numbers f)

-- The whole line.
module _ (line : List ℕ) where
  pub line_comment : is_comment line ≡ true → Passed ≡ pin_line_of line
  unfolding pin_line_of
  line_comment e = rw e refl

  module _ (n : is_comment line ≡ false) where
    pub line-long : 4000 < length line → Error ≡ pin_line_of line
    unfolding pin_line_of
    line-long h = rw (n, lt-ltb 4000 (length line) h) refl

    pub line-text : length line ≤ 4000 → of_text (take (text_length line) line) ≡ pin_line_of line
    unfolding pin_line_of
    line-text h = rw (n, le-ltb 4000 (length line) h) refl
