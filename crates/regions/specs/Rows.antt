-- The rows of the crossings, which rise, and each point located among them: its distances to the rows, and how many are below it.
use Rattle.std.specs.Prelude.{◌≡◌, List, ℕ, ◌+◌, ◌*◌, ◌≤◌, ◌<◌, length, get_or}
use Rattle.plane.specs.Point.{gap}
use Rattle.plane.specs.Coordinate.{coordinate}
use Rattle.regions.specs.Rays.{places}

-- There are at most 128 rows, and they rise.
pub record RowsGiven (rows : List ℕ) : Type 0 where
  pub few : length rows ≤ places
  pub rises : (r s : ℕ) → r < s → s < length rows → get_or rows r 0 < get_or rows s 0

-- The rows before the number k are below y, and the others are not.
pub record Ranked (rows : List ℕ) (count y k : ℕ) : Type 0 where
  pub within : k ≤ count
  pub below : (r : ℕ) → r < k → get_or rows r 0 < y
  pub above : (r : ℕ) → k ≤ r → r < count → y ≤ get_or rows r 0

-- The distance of two stored coordinates, times 128.
abbrev pub scaled_gap : ℕ → ℕ → ℕ
scaled_gap a b = gap (coordinate a) (coordinate b) * places

-- The largest such distance: that of 0 and 65,535.
abbrev pub widest_gap : ℕ
widest_gap = 65535 * places

-- The distances of y to the rows stand from the place `start` on, and what stands before it is as it was.
pub record RowGaps (rows : List ℕ) (count y start : ℕ) (before after : List ℕ) : Type 0 where
  pub here : (r : ℕ) → r < count → get_or after (start + r) 0 ≡ scaled_gap y (get_or rows r 0)
  pub rest : (i : ℕ) → i < start → get_or after i 0 ≡ get_or before i 0

-- The first n points among the rows: the distances of the point j stand from the place j * 128 on.
pub record Located (ys : List ℕ) (n : ℕ) (rows : List ℕ) (count : ℕ) (gaps ranks : List ℕ) : Type 0 where
  pub distances : (j : ℕ) → j < n → (r : ℕ) → r < count → get_or gaps (j * places + r) 0 ≡ scaled_gap (get_or ys j 0) (get_or rows r 0)
  pub ranked : (j : ℕ) → j < n → Ranked rows count (get_or ys j 0) (get_or ranks j 0)
