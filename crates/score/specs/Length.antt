-- What the length of a tree with one point more is worked out from.
use Rattle.std.specs.Prelude.{◌≡◌, List, ℕ, ◌<◌, length}
use Rattle.model.specs.Tree.{tree_length}
use Rattle.tree.specs.Build.{Rises}
use Rattle.keys.specs.Held.{held}
use Rattle.keys.specs.Keys.{tree_keys}
use Rattle.arrays.specs.Tab.{tab}
use Rattle.bottleneck.specs.Table.{Bottlenecks}
use Rattle.regions.specs.Rays.{places, table_size}

-- The points rise, the table has the bottlenecks of their tree, and `whole` is its length.
pub record Measured (xs ys table : List ℕ) (whole : ℕ) : Type 0 where
  pub same : length xs ≡ length ys
  pub few : length xs < places
  pub rises : Rises (held xs ys) (length xs)
  pub size : length table ≡ table_size
  pub bottlenecks : Bottlenecks (tree_keys (held xs ys) (length xs)) (length xs) table
  pub is : whole ≡ tree_length (tab (held xs ys) (length xs))
