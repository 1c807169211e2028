-- Items put over a part of an array.
use Rattle.std.specs.Prelude.{◌≡◌, List, [], ◌∷◌, ◌++◌, ℕ, ◌+◌, length}
use Rattle.std.proofs.Math.Seq.{paste}

-- The items stand in an array from place `at` on, the rest is as it was, and r is the place behind them. The array was `before` and
-- is `after`.
pub record Pasted {A : Type 0} (items before after : List A) (at r : ℕ) : Type 0 where
  pub next : r ≡ at + length items
  pub is : after ≡ paste before at items (length items)

-- What f makes of each item, one behind the other.
unfoldable pub each : {A : Type 0} → (A → List ℕ) → List A → List ℕ
each f [] = []
each f (k ∷ l) = f k ++ each f l
