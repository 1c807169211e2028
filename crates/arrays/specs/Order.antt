-- Strict orders, strictly sorted lists, and which of two lists comes first. `before a b` says that a comes before b.
use Rattle.std.specs.Prelude.{◌≡◌, ◌⊎◌}
use mathlib.Core.List.{List, [], ◌∷◌, Memᴰ}

-- A strict total order.
pub record StrictTotal {A : Type 0} (before : A → A → Type 0) : Type 0 where
  pub irrefl : (a : A) → ¬ before a a
  pub trans : (a b c : A) → before a b → before b c → before a c
  pub compare : (a b : A) → before a b ⊎ ((a ≡ b) ⊎ before b a)

-- A strictly sorted list: each element comes before every later one. A set is such a list.
abbrev pub Sorted : {A : Type 0} → (A → A → Type 0) → List A → Type 0
Sorted before [] = Unit {0}
Sorted {A} before (a ∷ l) = ((b : A) → Memᴰ b l → before a b) × Sorted before l

-- l is m, or comes first at the first place of difference (a list that ends there comes first).
abbrev pub First : {A : Type 0} → (A → A → Type 0) → List A → List A → Type 0
First before [] m = Unit {0}
First before (a ∷ l) [] = ⊥
First before (a ∷ l) (b ∷ m) = before a b ⊎ ((a ≡ b) × First before l m)
