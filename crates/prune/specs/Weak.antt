-- The first Steiner point of at most two edges, on codes and keys.
use Rattle.std.specs.Prelude.{List, [], ◌∷◌, ℕ, suc, leb, take}
use Rattle.spanning.specs.Graph.{degree}
use Rattle.arrays.specs.Test.{if}
use Rattle.arrays.specs.Array.{index_of}
use Rattle.keys.specs.Keys.{key_graph}
use Rattle.working.specs.declared.Working.{Working}

-- Where it stands in a list of codes, among the points whose codes are `all` and whose tree has the keys; the length where there is none.
unfoldable pub first_weak : List ℕ → List ℕ → List ℕ → ℕ
first_weak all keys [] = 0
first_weak all keys (q ∷ l) = if (leb 3 (degree key_graph (index_of q all) keys)) (λ _. suc (first_weak all keys l)) (λ _. 0)

-- The same of a working form.
abbrev pub weak_at : Working → ℕ
weak_at w = first_weak (take w.npoints w.codes) (take w.nkeys w.keys) (take w.points.nsteiner w.points.steiner)
