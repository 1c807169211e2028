-- The bottleneck of two vertices: the least bound under which edges connect them. On a tree it is the longest edge on their path.
use Rattle.std.specs.Prelude.{◌↔◌, List, ℕ, ◌≤◌}
use Rattle.spanning.specs.Graph.{Graph, Conn, In}

-- The edges of S that are no heavier than x.
abbrev pub Within : {E : Type 0} → (E → ℕ) → List E → ℕ → E → Type 0
Within w S x e = In S e × (w e ≤ x)

-- b is the bottleneck of u and v: edges of S no heavier than x connect them exactly if x is at least b.
abbrev pub Bottleneck : {P E : Type 0} → Graph P E → (E → ℕ) → List E → P → P → ℕ → Type 0
Bottleneck G w S u v b = (x : ℕ) → (b ≤ x) ↔ Conn G (Within w S x) v u
