-- What is worked out once before crossings are scored: the table of the tree's bottlenecks, and the points located among the rows.
use Rattle.std.specs.Prelude.{◌≡◌, List, ℕ, ◌+◌, ◌-◌, ◌≤◌, ◌<◌, length, get_or}
use Rattle.plane.specs.Point.{Point, lower}
use Rattle.plane.specs.Coordinate.{base}
use Rattle.arrays.specs.Set.{put}
use Rattle.model.specs.Tree.{tree_length}
use Rattle.tree.specs.Build.{Rises}
use Rattle.keys.specs.Held.{held}
use Rattle.keys.specs.Keys.{tree_keys}
use Rattle.bottleneck.specs.Table.{Bottlenecks}
use Rattle.regions.specs.Rays.{places, table_size, far}
use Rattle.regions.specs.Rows.{RowsGiven, Located}

-- Of the points, at least one, and the rows, all stored in 16 bits.
pub record Prepared (xs ys table gaps ranks rows : List ℕ) : Type 0 where
  pub some : 0 < length xs
  pub few : length xs < places
  pub in_ranks : length xs ≤ length ranks
  pub size_table : length table ≡ table_size
  pub size_gaps : length gaps ≡ table_size
  pub stored_xs : (i : ℕ) → get_or xs i 0 < base
  pub stored_ys : (i : ℕ) → get_or ys i 0 < base
  pub stored_rows : (i : ℕ) → get_or rows i 0 < base
  pub rises : Rises (held xs ys) (length xs)
  pub bottlenecks : Bottlenecks (tree_keys (held xs ys) (length xs)) (length xs) table
  pub given : RowsGiven rows
  pub located : Located ys (length xs) rows (length rows) gaps ranks

-- far + length of the tree of ps − length of the tree of ps and c: more than `far` exactly if c makes the tree shorter.
abbrev pub spared_by : List Point → Point → ℕ
spared_by ps c = far + tree_length ps - tree_length (put lower c ps)
