-- Numbers that stand beside the members of a list, in the same order.
use Rattle.std.specs.Prelude.{Bool, List, [], ◌∷◌, ℕ}
use Rattle.arrays.specs.Test.{if}
use Rattle.arrays.specs.Set.{tie}

-- The number beside a, `other` where a is no member.
unfoldable pub beside : {A : Type 0} → (A → A → Bool) → ℕ → A → List A → List ℕ → ℕ
beside less other a [] vs = other
beside less other a (b ∷ l) [] = other
beside less other a (b ∷ l) (v ∷ vs) = if (tie less a b) (λ _. v) (λ _. beside less other a l vs)
