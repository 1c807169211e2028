-- When points, all of them in one array with their coordinates, and keys are those of one deck: the fact that each working form holds.
use Rattle.std.specs.Prelude.{◌≡◌, List, ℕ, ◌≤◌, ltb, length, take}
use Rattle.arrays.specs.Set.{union}
use Rattle.model.specs.State.{points}
use Rattle.keys.specs.Keys.{tree_keys}
use Rattle.arrays.specs.Tab.{tab}
use Rattle.keys.specs.Held.{held}
use Rattle.tree.specs.Build.{Rises}
use Rattle.points.specs.declared.Points.{Points}
use Rattle.points.specs.Coded as coded

-- The codes of all points, pins and Steiner points merged.
abbrev pub all_codes : Points → List ℕ
all_codes q = union ltb (take q.npins q.pins) (take q.nsteiner q.steiner)

-- Points q are arranged, the first n of `all` are their codes, held by the coordinates xs and ys, and the first m of `row` are the keys of their tree.
pub record HeldInOrder (q : Points) (all xs ys : List ℕ) (n : ℕ) (row : List ℕ) (m : ℕ) : Type 0 where
  pub arranged : coded.Arranged q
  pub codes : take n all ≡ all_codes q
  pub count : n ≡ length (points (coded.state_of q))
  pub few : n ≤ coded.max_points
  pub points : tab (held xs ys) n ≡ points (coded.state_of q)
  pub rises : Rises (held xs ys) n
  pub tree : take m row ≡ tree_keys (held xs ys) n
  pub key_count : m ≡ length (tree_keys (held xs ys) n)
  pub keys_few : m ≤ coded.max_points
