-- What building a tree asks: points that rise with their places, few enough, and for a join the tree so far.
use Rattle.std.specs.Prelude.{◌≡◌, List, ℕ, ◌+◌, ◌≤◌, ◌<◌, length, take}
use Rattle.plane.specs.Point.{Point, lower, Lower}
use Rattle.plane.specs.Stored.{point_at}
use Rattle.arrays.specs.Set.{put}
use Rattle.model.specs.Tree.{tree_length}
use Rattle.keys.specs.Held.{held}
use Rattle.keys.specs.Keys.{places, octant_count, tree_keys}
use Rattle.arrays.specs.Tab.{tab}

-- The first n points rise with their numbers.
abbrev pub Rises : (ℕ → Point) → ℕ → Type 0
Rises at n = (i j : ℕ) → i < j → j < n → Lower (at i) (at j)

-- What building asks: n points that rise, and room for as many keys as there are points and octants.
pub record BuildRequires (xs ys : List ℕ) (n room : ℕ) : Type 0 where
  pub in_xs : n ≤ length xs
  pub in_ys : n ≤ length ys
  pub few : n ≤ places
  pub fits : n + octant_count ≤ room
  pub rises : Rises (held xs ys) n

-- What joining the point n asks: the keys of the tree of the points before it, and room in both arrays.
pub record JoinRequires (xs ys : List ℕ) (n : ℕ) (keys : List ℕ) (m room : ℕ) : Type 0 where
  pub in_xs : n < length xs
  pub in_ys : n < length ys
  pub few : n < places
  pub fits : n + octant_count ≤ length keys
  pub work : n + octant_count ≤ room
  pub rises : Rises (held xs ys) (n + 1)
  pub within : m ≤ length keys
  pub tree : take m keys ≡ tree_keys (held xs ys) n
  pub count : m ≡ length (tree_keys (held xs ys) n)

-- The length of the tree of the first n points and the point at (x, y).
abbrev pub length_with : List ℕ → List ℕ → ℕ → ℕ → ℕ → ℕ
length_with xs ys n x y = tree_length (put lower (point_at x y) (tab (held xs ys) n))
