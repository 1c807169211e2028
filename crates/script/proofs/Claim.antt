-- Names with their numbers, and no others: a name is compared with each that there is.
use mathlib.Core.Path.{◌≡◌, refl, sym, ◌∙◌, subst}
use mathlib.Core.Logic.{◌↔◌, ◌⊎◌, inl, inr, ⊎_elim}
use mathlib.Core.Bool.{Bool, true, false, ◌||◌}
use mathlib.Core.List.Memᴰ.{head}
use mathlib.Core.List.Memᴰ.{tail}
use mathlib.Core.List.{List, [], ◌∷◌}
use Prim.Native.Nat.{ℕ}
use native.Mathlib.Omega.{arith}
use lib.Dec.{T}
use lib.IntN.{ℤ, pos, negsuc}
use Rattle.arrays.specs.Test.{if}
use Rattle.arrays.specs.Text.{bytes}
use Rattle.arrays.specs.Same.{same_list}
use Rattle.arrays.proofs.Test.{true_of, of_true, false_of}
use Rattle.arrays.proofs.Alike.{same_eq, same_refl, same_not}
use Rattle.words.specs.Hex.{is_hex}
use Rattle.arguments.specs.Arguments.{arguments_of}
use Rattle.std.proofs.Common.{Some}
use Rattle.arguments.specs.declared.Arguments.TheVariants.{Zero, One, Two, Three, Five}
use Rattle.commands.specs.declared.Command.TheVariants.{Error, Read}
use Rattle.commands.specs.Commands.{question_word, of_one_word, with_size, with_natural, with_number, with_pair, with_kind, with_three}
use Rattle.commands.specs.Commands.{are_short, with_places, with_five, of_numbers}
use Rattle.script.specs.Line.{of_file, with_file, of_words}
use Rattle.script.specs.Claim.{OnlyNames, Names}
use Rattle.commands.proofs.Names.{alone_question, question_none, sized_none, number_negative, pair_none}
use Rattle.commands.proofs.Names.{kind_negative, three-add, three_none, five_none, five_long}

-- A name that is not in a list is none of its names.
not_same : (w n : List ℕ) → ¬ (w ≡ n) → same_list w n ≡ false
not_same w n h = sym (same_not w n h)

-- With no number, one, two, three and five.
none_alone : OnlyNames (bytes "write" ∷ bytes "round" ∷ bytes "finish" ∷ bytes "list" ∷ bytes "length" ∷ bytes "counts" ∷ bytes "kinds" ∷ []) (Some Zero)
unfolding of_numbers
none_alone w n =
    sym (question ∙ alone_question w (not_same w (bytes "write") (λ e. n (head e))) (not_same w (bytes "round") (λ e. n (tail (head e))))
    (not_same w (bytes "finish") (λ e. n (tail (tail (head e))))) (not_same w (bytes "list") (λ e. n (tail (tail (tail (head e)))))))
  where
    question : Error ≡ question_word w
    question =
        question_none w (not_same w (bytes "length") (λ e. n (tail (tail (tail (tail (head e)))))))
        (not_same w (bytes "counts") (λ e. n (tail (tail (tail (tail (tail (head e))))))))
        (not_same w (bytes "kinds") (λ e. n (tail (tail (tail (tail (tail (tail (head e)))))))))

none_negative : (k : ℕ) → OnlyNames (bytes "glyph" ∷ bytes "column" ∷ []) (Some (One (negsuc k)))
unfolding of_numbers
none_negative k w n =
    sym (number_negative w (negsuc k) (not_same w (bytes "glyph") (λ e. n (head e))) (not_same w (bytes "column") (λ e. n (tail (head e)))) refl)

none_one : (z : ℤ) → OnlyNames (bytes "write" ∷ bytes "run" ∷ bytes "tail" ∷ bytes "glyph" ∷ bytes "column" ∷ []) (Some (One z))
unfolding of_numbers with_number with_natural
none_one (pos k) w n =
    rw (not_same w (bytes "glyph") (λ e. n (tail (tail (tail (head e))))), not_same w (bytes "column") (λ e. n (tail (tail (tail (tail (head e)))))))
    (sym (sized_none w k (not_same w (bytes "write") (λ e. n (head e))) (not_same w (bytes "run") (λ e. n (tail (head e))))
    (not_same w (bytes "tail") (λ e. n (tail (tail (head e)))))))
none_one (negsuc k) w n = none_negative k w (λ e. n (tail (tail (tail e))))

none_two : (x y : ℤ) → OnlyNames (bytes "add" ∷ bytes "withdraw" ∷ bytes "degree" ∷ bytes "octant" ∷ []) (Some (Two x y))
unfolding of_numbers
none_two x y w n =
    sym (pair_none w x y (not_same w (bytes "add") (λ e. n (head e))) (not_same w (bytes "withdraw") (λ e. n (tail (head e))))
    (not_same w (bytes "degree") (λ e. n (tail (tail (head e))))) (not_same w (bytes "octant") (λ e. n (tail (tail (tail (head e)))))))

none_three : (x y z : ℤ) → OnlyNames (bytes "add" ∷ []) (Some (Three x y z))
unfolding of_numbers
none_three x y z w n = sym (three_none x y z w (not_same w (bytes "add") (λ e. n (head e))))

-- A negative kind, whatever the name is.
none_kind : (x y : ℤ) (k : ℕ) → OnlyNames [] (Some (Three x y (negsuc k)))
unfolding of_numbers
none_kind x y k w n = go (same_list w (bytes "add")) refl
  where
    go : (b : Bool) → same_list w (bytes "add") ≡ b → with_three w x y (negsuc k) ≡ Error
    go true e = sym (kind_negative x y (negsuc k) refl ∙ three-add x y (negsuc k) w e)
    go false e = sym (three_none x y (negsuc k) w e)

none_five : (x y u v p : ℤ) → OnlyNames (bytes "arrow" ∷ []) (Some (Five x y u v p))
unfolding of_numbers
none_five x y u v p w n = sym (five_none w x y u v p (not_same w (bytes "arrow") (λ e. n (head e))))

-- Places beyond 16 bits, whatever the name is.
none_beyond : (x y u v p : ℤ) → ¬ T (are_short x y u v) → OnlyNames [] (Some (Five x y u v p))
unfolding of_numbers
none_beyond x y u v p h w n = go (same_list w (bytes "arrow")) refl
  where
    go : (b : Bool) → same_list w (bytes "arrow") ≡ b → with_five w x y u v p ≡ Error
    go true e = sym (five_long w x y u v p e (false_of (are_short x y u v) h))
    go false e = sym (five_none w x y u v p e)

-- The file of `read`.
read_file_lem : (x : List ℕ) → (of_words (bytes "read" ∷ x ∷ []) ≡ Read) ↔ ((x ≡ bytes "-") ⊎ T (is_hex x))
unfolding of_file with_file of_words
read_file_lem x = (
  from (same_list x (bytes "-")) refl (is_hex x) refl,
  ⊎_elim (λ e. rw (true_of (same_list x (bytes "-")) (subst (λ (y : List ℕ). T (same_list x y)) e (same_refl x))) refl) (λ t. to (same_list x (bytes "-")) t),
)
  where
    from : (a : Bool) → same_list x (bytes "-") ≡ a → (b : Bool) → is_hex x ≡ b → if (a || b) (λ _. Read) (λ _. Error) ≡ Read
        → (x ≡ bytes "-") ⊎ T (is_hex x)
    from true e b f q = inl (same_eq x (bytes "-") (of_true e))
    from false e true f q = inr (of_true f)
    from false e false f q = let z : ◌≡◌ {A = ℕ} 0 1 = cc in absurd (omega arith)

    to : (a : Bool) → T (is_hex x) → if (a || is_hex x) (λ _. Read) (λ _. Error) ≡ Read
    to true t = refl
    to false t = rw (true_of (is_hex x) t) refl

other_name : (w : List ℕ) (l : List (List ℕ)) → ¬ (w ≡ bytes "read") → of_words (w ∷ l) ≡ of_numbers w (arguments_of l)
unfolding of_words
other_name w l n = rw (not_same w (bytes "read") n) refl

pub names : Names
unfolding question_word of_one_word with_size with_natural with_number with_pair with_kind with_three with_places with_five of_numbers of_words
names =
    record {
      write = refl;
      round = refl;
      finish = refl;
      list = refl;
      length = refl;
      counts = refl;
      kinds = refl;
      no_number = none_alone;
      write_into = λ n. refl;
      run = λ n. refl;
      tail = λ n. refl;
      glyph = λ z. refl;
      column = λ z. refl;
      one_number = none_one;
      one_negative = none_negative;
      add = λ x y. refl;
      withdraw = λ x y. refl;
      degree = λ x y. refl;
      octant = λ x y. refl;
      two_numbers = none_two;
      add_kind = λ x y k. refl;
      three_numbers = none_three;
      three_negative = none_kind;
      four_numbers = λ x y u v w n. refl;
      arrow = λ x y u v p t. rw (true_of (are_short x y u v) t) refl;
      arrow_beyond = none_beyond;
      five_numbers = none_five;
      invalid = λ w n. refl;
      nothing = refl;
      read = read_file_lem;
      named = other_name;
    }
