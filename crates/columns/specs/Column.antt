-- One column by itself (SPEC 4.9): what it answers for an x, the same as a relation, and the round's choice by the answers of the columns.
use Rattle.std.specs.Prelude.{◌≡◌, ◌⊎◌, ◌↔◌, Bool, List, [], ◌∷◌, map, ℕ, T, ℤ, pos}
use Rattle.std.proofs.Math.Option.{Option, none, some}
use Rattle.std.specs.Int.Signed.{lt_z}
use Rattle.arrays.specs.Test.{if}
use Rattle.arrays.specs.Set.{tie, passing}
use Rattle.plane.specs.Point.{Point, Lower}
use Rattle.model.specs.Tail.{tree_length_with}
use Rattle.model.specs.Round.{xs_of, candidates, saving, best_above, best}
use Rattle.model.specs.Choice.{Candidate, saved}

-- Whether a point has this x.
abbrev pub has_x : ℤ → Point → Bool
has_x x c = tie lt_z c.x x

-- The candidates with this x, lower first.
unfoldable pub candidates_at : ℤ → List Point → List Point
candidates_at x ps = passing (has_x x) (candidates ps)

-- Of some candidates, lower first, the lowest of greatest saving, be it below 0; none where there is no candidate.
unfoldable pub most_saving : ℕ → ℕ → List Point → List Point → Option Point
most_saving tail now ps [] = none
most_saving tail now ps (c ∷ cs) = best_above tail now ps (saving tail now ps c) (some c) cs

-- The answer of a column (SPEC 4.9): no candidate, or one with its saving.
pub data ColumnAnswer : Type 0 where
  no_candidate : ColumnAnswer
  chosen : Point → ℤ → ColumnAnswer

-- The candidate that was found, with its saving.
abbrev pub answer_for : ℕ → List Point → Option Point → ColumnAnswer
answer_for tail ps none = no_candidate
answer_for tail ps (some c) = chosen c (saved tail ps c)

-- What the column of an x answers.
unfoldable pub column_answer : ℕ → List Point → ℤ → ColumnAnswer
column_answer tail ps x = answer_for tail ps (most_saving tail (tree_length_with tail ps) ps (candidates_at x ps))

-- The candidate that a column names (SPEC 4.9): it has this x, of those with this x none saves more, and it is lower than any other that saves as much.
pub record ChosenAt (tail : ℕ) (ps : List Point) (x : ℤ) (c : Point) : Type 0 where
  pub candidate : Candidate ps c
  pub there : c.x ≡ x
  pub most : (d : Point) → Candidate ps d → d.x ≡ x → ¬ T (lt_z (saved tail ps c) (saved tail ps d))
  pub lowest : (d : Point) → Candidate ps d → d.x ≡ x → saved tail ps d ≡ saved tail ps c → (d ≡ c) ⊎ Lower c d

-- Of the answers of columns the first of greatest saving above `top`, else what was found before.
unfoldable pub best_answer : ℤ → Option Point → List ColumnAnswer → Option Point
best_answer top found [] = found
best_answer top found (no_candidate ∷ l) = best_answer top found l
best_answer top found (chosen c v ∷ l) = if (lt_z top v) (λ _. best_answer v (some c) l) (λ _. best_answer top found l)

-- The claims on columns, for points with tails of some length.
pub record Columns (tail : ℕ) (ps : List Point) : Type 0 where
  -- a column names the candidate that is chosen, with its saving, and no other
  pub names : (x : ℤ) (c : Point) (v : ℤ) → (column_answer tail ps x ≡ chosen c v) ↔ (ChosenAt tail ps x c × (v ≡ saved tail ps c))
  -- it names none exactly if no candidate has that x
  pub empty : (x : ℤ) → (column_answer tail ps x ≡ no_candidate) ↔ ((d : Point) → Candidate ps d → ¬ (d.x ≡ x))
  -- the round's choice: of the answers of the columns on which points lie, least x first, the first of greatest saving above 0
  pub round : best tail ps ≡ best_answer (pos 0) none (map (column_answer tail ps) (xs_of ps))
