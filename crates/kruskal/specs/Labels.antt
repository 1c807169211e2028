-- The labels of Kruskal's pass.
use Rattle.std.specs.Prelude.{ℕ, eqb}
use Rattle.arrays.specs.Test.{if}

-- The label c, with b in the place of a.
abbrev pub moved : ℕ → ℕ → ℕ → ℕ
moved a b c = if (eqb c a) (λ _. b) (λ _. c)
