-- The numbers of the words of a line: word by word, as a loop goes, they are those of all words together.
use mathlib.Core.Path.{◌≡◌, refl, sym, ap, ◌∙◌}
use mathlib.Core.List.{List, [], ◌∷◌, ◌++◌, append-nil, append_assoc}
use Prim.Native.Nat.{ℕ}
use Rattle.std.proofs.Common.{Option, None, Some, ℤ}
use Rattle.std.specs.Option.{option_and_then}
use Rattle.words.specs.Words.{words_of, Next}
use Rattle.numbers.specs.Numbers.{number_of}
use Rattle.arguments.specs.declared.Arguments.{Arguments}
use Rattle.arguments.specs.declared.Arguments.TheVariants.{Zero}
use Rattle.arguments.specs.Arguments.{before, numbers_of, up_to_five, if_numbers, arguments_of, appended, with_word, arguments_from}

-- What is said of arguments, and then of one more number.
abbrev and_then : Option Arguments → (Arguments → Option Arguments) → Option Arguments
and_then o f = option_and_then f o

-- One more number behind up to five.
appended-list : (l : List ℤ) (z : ℤ) → and_then (up_to_five l) (λ a. appended a z) ≡ up_to_five (l ++ (z ∷ []))
unfolding appended
appended-list [] z = refl
appended-list (i ∷ []) z = refl
appended-list (i ∷ j ∷ []) z = refl
appended-list (i ∷ j ∷ k ∷ []) z = refl
appended-list (i ∷ j ∷ k ∷ l ∷ []) z = refl
appended-list (i ∷ j ∷ k ∷ l ∷ m ∷ []) z = refl
appended-list (i ∷ j ∷ k ∷ l ∷ m ∷ n ∷ more) z = refl

-- Words behind arguments that may be none.
abbrev behind : List (List ℕ) → Option Arguments → Option Arguments
behind ws o = and_then o (λ a. arguments_from a ws)

-- The numbers l, and those of further words.
abbrev joined : List ℤ → Option (List ℤ) → Option Arguments
joined l None = None
joined l (Some m) = up_to_five (l ++ m)

word_by_word : (l : List ℤ) (ws : List (List ℕ)) → behind ws (up_to_five l) ≡ joined l (numbers_of ws)
unfolding arguments_from with_word numbers_of
word_by_word l [] = all (up_to_five l) ∙ ap up_to_five (sym (append-nil l))
  where
    all : (o : Option Arguments) → behind [] o ≡ o
    all None = refl
    all (Some a) = refl
word_by_word l (w ∷ ws) = inner (up_to_five l) (number_of w) ∙ go (number_of w) (λ z. word_by_word (l ++ (z ∷ [])) ws)
  where
    -- One more number, and then the words behind.
    one_more : Option ℤ → Option Arguments → Option Arguments
    one_more n o = and_then o (λ a. option_and_then (appended a) n)

    inner : (o : Option Arguments) (n : Option ℤ) → and_then o (λ a. behind ws (option_and_then (appended a) n)) ≡ behind ws (one_more n o)
    inner None n = refl
    inner (Some a) n = refl

    none : (o : Option Arguments) → one_more None o ≡ None
    none None = refl
    none (Some a) = refl

    some : (o : Option Arguments) (z : ℤ) → one_more (Some z) o ≡ and_then o (λ a. appended a z)
    some None z = refl
    some (Some a) z = refl

    moved : (z : ℤ) (o : Option (List ℤ)) → joined (l ++ (z ∷ [])) o ≡ joined l (before (Some z) o)
    moved z None = refl
    moved z (Some m) = ap up_to_five (append_assoc l (z ∷ []) m)

    go : (n : Option ℤ) → ((z : ℤ) → behind ws (up_to_five (l ++ (z ∷ []))) ≡ joined (l ++ (z ∷ [])) (numbers_of ws))
        → behind ws (one_more n (up_to_five l)) ≡ joined l (before n (numbers_of ws))
    go None next = ap (behind ws) (none (up_to_five l))
    go (Some z) next = ap (behind ws) (some (up_to_five l) z ∙ appended-list l z) ∙ next z ∙ moved z (numbers_of ws)

pub arguments_are : (ws : List (List ℕ)) → arguments_of ws ≡ arguments_from Zero ws
unfolding arguments_of
arguments_are ws = sym (word_by_word [] ws ∙ same (numbers_of ws))
  where
    same : (o : Option (List ℤ)) → joined [] o ≡ if_numbers o
    same None = refl
    same (Some m) = refl

-- The words of a text behind the arguments so far: no word, or one and those behind it.
module _ (line : List ℕ) (a : Arguments) {all : Option Arguments} (inv : all ≡ arguments_from a (words_of line)) where
  pub numbers_end : words_of line ≡ [] → Some a ≡ all
  unfolding arguments_from
  numbers_end e = sym (inv ∙ ap (arguments_from a) e)

  module _ {word rest : List ℕ} (n : Next line word rest) where
    pub numbers_none : None ≡ number_of word → None ≡ all
    unfolding arguments_from with_word
    numbers_none e = sym (inv ∙ ap (arguments_from a) n.words ∙ ap (λ (o : Option ℤ). behind (words_of rest) (option_and_then (appended a) o)) (sym e))

    pub numbers_full : (z : ℤ) → Some z ≡ number_of word → None ≡ appended a z → None ≡ all
    unfolding arguments_from with_word
    numbers_full z e f =
        sym (inv ∙ ap (arguments_from a) n.words ∙ ap (λ (o : Option ℤ). behind (words_of rest) (option_and_then (appended a) o)) (sym e)
        ∙ ap (behind (words_of rest)) (sym f))

    pub numbers_more : (z : ℤ) → Some z ≡ number_of word → (b : Arguments) → Some b ≡ appended a z → all ≡ arguments_from b (words_of rest)
    unfolding arguments_from with_word
    numbers_more z e b f =
        inv ∙ ap (arguments_from a) n.words ∙ ap (λ (o : Option ℤ). behind (words_of rest) (option_and_then (appended a) o)) (sym e)
        ∙ ap (behind (words_of rest)) (sym f)
