-- Names that are tried one after the other: what is left behind the last of them.
use mathlib.Core.Path.{◌≡◌, refl}
use mathlib.Core.Bool.{true, false}
use mathlib.Core.List.{List}
use Prim.Native.Nat.{ℕ}
use lib.IntN.{ℤ, pos}
use lib.Signed.{lt_z}
use Rattle.arrays.proofs.Signed.{if_negative}
use Rattle.commands.specs.declared.Command.TheVariants.{Error, Call}
use Rattle.commands.specs.declared.Change.TheVariants.{Add}
use Rattle.arrays.specs.Text.{bytes}
use Rattle.arrays.specs.Same.{same_list}
use Rattle.commands.specs.Commands.{question_word, of_one_word, with_size, with_natural, with_number, with_pair, with_kind, with_three}
use Rattle.commands.specs.Commands.{are_short, with_places, with_five}

-- One word: behind the names of calls come those of questions.
module _ (w : List ℕ) where
  pub alone_question : same_list w (bytes "write") ≡ false → same_list w (bytes "round") ≡ false → same_list w (bytes "finish") ≡ false
      → same_list w (bytes "list") ≡ false → question_word w ≡ of_one_word w
  unfolding of_one_word
  alone_question a b c d = rw (a, b, c, d) refl

  pub question_none : same_list w (bytes "length") ≡ false → same_list w (bytes "counts") ≡ false → same_list w (bytes "kinds") ≡ false
      → Error ≡ question_word w
  unfolding question_word
  question_none a b c = rw (a, b, c) refl

-- A word and a size.
pub sized_none : (w : List ℕ) (n : ℕ) → same_list w (bytes "write") ≡ false → same_list w (bytes "run") ≡ false → same_list w (bytes "tail") ≡ false
    → Error ≡ with_size w n
unfolding with_size
sized_none w n a b c = rw (a, b, c) refl

-- A word and a number: behind `glyph` and `column` come the names with a size.
module _ (w : List ℕ) (i : ℤ) (a : same_list w (bytes "glyph") ≡ false) (b : same_list w (bytes "column") ≡ false) where
  pub number_natural : with_natural w i ≡ with_number w i
  unfolding with_number
  number_natural = rw (a, b) refl

  pub number_negative : lt_z i (pos 0) ≡ true → Error ≡ with_number w i
  unfolding with_number with_natural
  number_negative e = rw (a, b) (if_negative (with_size w) Error i e)

-- A word and two numbers.
pub pair_none : (w : List ℕ) (i j : ℤ) → same_list w (bytes "add") ≡ false → same_list w (bytes "withdraw") ≡ false
    → same_list w (bytes "degree") ≡ false → same_list w (bytes "octant") ≡ false → Error ≡ with_pair w i j
unfolding with_pair
pair_none w i j a b c d = rw (a, b, c, d) refl

-- A word and three numbers.
module _ (x y kind : ℤ) where
  pub kind_negative : lt_z kind (pos 0) ≡ true → Error ≡ with_kind x y kind
  unfolding with_kind
  kind_negative e = if_negative (λ (k : ℕ). Call (Add x y k)) Error kind e

  pub three-add : (w : List ℕ) → same_list w (bytes "add") ≡ true → with_kind x y kind ≡ with_three w x y kind
  unfolding with_three
  three-add w a = rw a refl

  pub three_none : (w : List ℕ) → same_list w (bytes "add") ≡ false → Error ≡ with_three w x y kind
  unfolding with_three
  three_none w a = rw a refl

-- A word and five numbers.
module _ (w : List ℕ) (x y u v pitch : ℤ) where
  pub five_none : same_list w (bytes "arrow") ≡ false → Error ≡ with_five w x y u v pitch
  unfolding with_five
  five_none a = rw a refl

  module _ (a : same_list w (bytes "arrow") ≡ true) where
    pub five_arrow : with_places x y u v pitch ≡ with_five w x y u v pitch
    unfolding with_five
    five_arrow = rw a refl

    pub five_long : are_short x y u v ≡ false → Error ≡ with_five w x y u v pitch
    unfolding with_five with_places
    five_long b = rw (a, b) refl
