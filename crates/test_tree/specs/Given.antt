-- What is handed from one function to the next: what the tree of the points is measured by, and the crossings to try.
use Rattle.std.specs.Prelude.{List, ℕ, ◌≤◌, length}
use Rattle.score.specs.Length.{Measured}

-- There are crossings to try on a tree, with room for their lengths.
pub record Tried (xs ys table : List ℕ) (plain : ℕ) (cx cy : List ℕ) (room : ℕ) : Type 0 where
  pub given : Measured xs ys table plain
  pub both : length cx ≤ length cy
  pub fits : length cx ≤ room
