-- The words of a line by places: white space and words are passed one byte after the other, and what is passed is the next word.
use mathlib.Core.Path.{◌≡◌, refl, sym, ap, ◌∙◌}
use mathlib.Core.Bool.{Bool, true, false}
use mathlib.Core.List.{List, [], ◌∷◌, ◌++◌, append_assoc, append-nil}
use Prim.Native.Nat.{ℕ, suc, ◌+◌, ◌≤◌, ◌<◌}
use native.Mathlib.Numerals.{add-one}
use native.Mathlib.Omega.{arith}
use lib.ListN.{length, take, drop, get_or, length-drop}
use lib.Seq.{drop-cons, length-take-le}
use Rattle.std.proofs.lemmas.Bool.Decides.{nat_tests}
use Rattle.std.proofs.Common.{cond, not, ltb, Some, None}
use Rattle.std.proofs.lemmas.Str.Ascii.{trim_ascii_start_is}
use Rattle.std.specs.Char.{is_ascii_whitespace}
use Rattle.std.specs.List.{prefix_len, position_or_len}
use Rattle.std.specs.Option.{unwrap_or}
use Rattle.std.specs.Str.{IsTrimAsciiStart}
use Rattle.arrays.specs.Test.{if}
use Rattle.words.specs.Words.{is_space, ended, split, words_of, spaces, letters, without_spaces, Next}

-- White space by the library's test, which has two ranges and one byte.
pub space-is : (b : ℕ) → is_ascii_whitespace b ≡ is_space b
unfolding is_space
space-is b = grind (arith, nat_tests)

-- What is left of a line at a place.
pub here : (l : List ℕ) (i : ℕ) → i < length l → drop i l ≡ get_or l i 0 ∷ drop (i + 1) l
here l i h = drop-cons l i 0 h ∙ ap (λ (j : ℕ). get_or l i 0 ∷ drop j l) (sym (add-one i))

-- How many bytes a line begins with that are white space, and that are none, by the library's tests.
spaces-are : (l : List ℕ) → prefix_len is_ascii_whitespace l ≡ spaces l
unfolding spaces
spaces-are [] = refl
spaces-are (b ∷ l) = rw (space-is b, spaces-are l) (one (is_space b) (spaces l))
  where
    one : (t : Bool) (n : ℕ) → cond t (1 + n) 0 ≡ if t (λ _. suc n) (λ _. 0)
    one true n = omega arith
    one false n = refl

letters-are : (l : List ℕ) → position_or_len is_ascii_whitespace l ≡ letters l
unfolding letters
letters-are [] = refl
letters-are (b ∷ l) = rw (space-is b, letters-are l) (one (is_space b) (letters l))
  where
    one : (t : Bool) (n : ℕ) → cond (not t) (1 + n) 0 ≡ if t (λ _. 0) (λ _. suc n)
    one true n = refl
    one false n = omega arith

pub letters_most : (l : List ℕ) → letters l ≤ length l
unfolding letters
letters_most [] = omega arith
letters_most (b ∷ l) = most (is_space b) (letters_most l)
  where
    most : (t : Bool) → letters l ≤ length l → if t (λ _. 0) (λ _. suc (letters l)) ≤ suc (length l)
    most true h = omega arith
    most false h = omega arith

pub letters_found : (l : List ℕ)
    → unwrap_or (cond (ltb (position_or_len is_ascii_whitespace l) (length l)) (Some (position_or_len is_ascii_whitespace l)) None) (length l) ≡ letters l
letters_found l = rw letters-are (found (letters l) (length l) (letters_most l))
  where
    found : (p n : ℕ) → p ≤ n → unwrap_or (cond (ltb p n) (Some p) None) n ≡ p
    found p n h = grind (arith, nat_tests)

-- The words of a line are those without the white space that it begins with.
without-spaces : (l : List ℕ) → split [] l ≡ split [] (drop (spaces l) l)
unfolding split spaces
without-spaces [] = refl
without-spaces (b ∷ l) = go (is_space b) refl (without-spaces l)
  where
    go : (t : Bool) → is_space b ≡ t → split [] l ≡ split [] (drop (spaces l) l) → split [] (b ∷ l) ≡ split [] (drop (spaces (b ∷ l)) (b ∷ l))
    go true e r = rw e r
    go false e r = rw (e, e) refl

-- A word goes on up to white space or the end.
with_letters : (w l : List ℕ) → split w l ≡ ended (w ++ take (letters l) l) (split [] (drop (letters l) l))
unfolding split letters
with_letters w [] = rw (append-nil w) refl
with_letters w (b ∷ l) = go (is_space b) refl (with_letters (w ++ (b ∷ [])) l)
  where
    go : (t : Bool) → is_space b ≡ t
        → split (w ++ (b ∷ [])) l ≡ ended (w ++ (b ∷ []) ++ take (letters l) l) (split [] (drop (letters l) l))
        → split w (b ∷ l) ≡ ended (w ++ take (letters (b ∷ l)) (b ∷ l)) (split [] (drop (letters (b ∷ l)) (b ∷ l)))
    go true e r = rw (e, append-nil w, e) refl
    go false e r = rw e (r ∙ rw (append_assoc w (b ∷ []) (take (letters l) l)) refl)

-- Past white space a word begins, or the line is at its end.
begins : (l : List ℕ) → letters (drop (spaces l) l) ≡ 0 → drop (spaces l) l ≡ []
unfolding spaces letters
begins [] e = refl
begins (b ∷ l) e = go (is_space b) refl e (begins l)
  where
    go : (t : Bool) → is_space b ≡ t → letters (drop (spaces (b ∷ l)) (b ∷ l)) ≡ 0 → (letters (drop (spaces l) l) ≡ 0 → drop (spaces l) l ≡ [])
        → drop (spaces (b ∷ l)) (b ∷ l) ≡ []
    go true f g r = rw f (r (rw f at g))
    go false f g r = let h : suc (letters l) ≡ 0 = sym (rw f refl) ∙ rw f at g in absurd (omega arith)

word_some : (w : List ℕ) (ws : List (List ℕ)) → 0 < length w → ended w ws ≡ w ∷ ws
word_some [] ws h = absurd (omega arith)
word_some (b ∷ w) ws h = refl

-- What is left of a line without the white space that it begins with is at its end, or begins with a word.
module _ (line from : List ℕ) (trimmed : IsTrimAsciiStart line from) where
  from_is : from ≡ without_spaces line
  from_is = trim_ascii_start_is line from trimmed ∙ ap (λ (n : ℕ). drop n line) (spaces-are line)

  pub next_none : letters from ≡ 0 → words_of line ≡ []
  unfolding split
  next_none e = without-spaces line ∙ ap words_of (begins line (ap letters (sym from_is) ∙ e))

  pub next_some : (n : ℕ) → n ≡ letters from → ¬ (n ≡ 0) → {word rest : List ℕ} → word ≡ take n from → rest ≡ drop n from → Next line word rest
  next_some n e some {word} {rest} front back = record {
    word_is = first ∙ ap (λ (l : List ℕ). take (letters l) l) from_is;
    rest_is = behind ∙ ap (λ (l : List ℕ). drop (letters l) l) from_is;
    words = without-spaces line ∙ ap words_of (sym from_is) ∙ with_letters [] from
        ∙ word_some (take (letters from) from) _ (omega (arith, length-take-le (letters from) from (letters_most from)))
        ∙ (λ i. sym first i ∷ words_of (sym behind i));
    shorter = omega (arith, ap length behind, length-drop (letters from) from, ap length from_is, length-drop (spaces line) line, letters_most from);
  }
    where
      first : word ≡ take (letters from) from
      first = front ∙ ap (λ (k : ℕ). take k from) e

      behind : rest ≡ drop (letters from) from
      behind = back ∙ ap (λ (k : ℕ). drop k from) e
