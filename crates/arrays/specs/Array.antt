-- What the functions over arrays of numbers say: a set with numbers taken out of it, the index of a number, a row of zeros,
-- and the two steps of a merge.
use Rattle.std.specs.Prelude.{◌≡◌, Bool, true, not, ◌&&◌, List, [], ◌∷◌, ◌++◌, ℕ, suc, ◌-◌, ltb, eqb, length, drop, replicate}
use Rattle.arrays.specs.Test.{if}
use Rattle.arrays.specs.Set.{all, has, tie}

-- Of the first n elements the set l stays, in front; zeros fill the places freed; nothing behind changed; r counts l.
pub record Removed (l before after : List ℕ) (n r : ℕ) : Type 0 where
  pub count : r ≡ length l
  pub shows : after ≡ l ++ (replicate (n - length l) 0 ++ drop n before)

-- The index of k: how many elements stand before the first that is k.
unfoldable pub index_of : ℕ → List ℕ → ℕ
index_of k [] = 0
index_of k (b ∷ l) = if (tie ltb k b) (λ _. 0) (λ _. suc (index_of k l))

-- No element of the second list is in the first.
abbrev pub none_in : List ℕ → List ℕ → Bool
none_in b a = all (λ (k : ℕ). not (has ltb k b)) a

-- Whether every element is 0.
unfoldable pub all_zero : List ℕ → Bool
all_zero [] = true
all_zero (b ∷ l) = eqb b 0 && all_zero l

-- The lesser of the first elements of two lists, or the first element of the one that has any.
unfoldable pub lesser : List ℕ → List ℕ → ℕ
lesser [] [] = 0
lesser [] (b ∷ m) = b
lesser (a ∷ l) [] = a
lesser (a ∷ l) (b ∷ m) = if (ltb b a) (λ _. b) (λ _. a)

-- The list without its first element where that is v.
unfoldable pub past : ℕ → List ℕ → List ℕ
past v [] = []
past v (b ∷ l) = if (eqb b v) (λ _. l) (λ _. b ∷ l)
