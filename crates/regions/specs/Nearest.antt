-- The nearest points of a crossing by its four sides: the least ray of each.
use Rattle.std.specs.Prelude.{◌≡◌, ◌⊎◌, List, ℕ, ◌+◌, ◌*◌, ◌-◌, ◌≤◌, ◌<◌, max, length, get_or}
use Rattle.regions.specs.Rays.{places, table_size, far_ray}
use Rattle.regions.specs.Rows.{scaled_gap, widest_gap}

-- The sides of a crossing, between its diagonals.
pub data Side : Type 0 where
  east : Side
  west : Side
  north : Side
  south : Side

-- Where the rays of a side stand in an array of all: 128 rows of each.
abbrev pub side_offset : Side → ℕ
side_offset east = 0
side_offset west = places
side_offset north = 2 * places
side_offset south = 3 * places

-- Room for the rays of four sides.
abbrev pub ray_places : ℕ
ray_places = 4 * places

-- A ray is kept as its complement, how much it is below `far_ray`: no ray is 0, and the least ray has the greatest complement.
abbrev pub ray_at : List ℕ → Side → ℕ → ℕ
ray_at least t r = far_ray - get_or least (side_offset t + r) 0

-- An array of complements, and one with no ray.
pub record Complements (least : List ℕ) : Type 0 where
  pub size : length least ≡ ray_places
  pub low : (i : ℕ) → get_or least i 0 ≤ far_ray

pub record NoRays (least : List ℕ) : Type 0 where
  pub size : length least ≡ ray_places
  pub none : (i : ℕ) → get_or least i 0 ≡ 0

-- For the column x: the difference in x of the point j, times 128, with its number; and its ray to the crossing with the row r.
abbrev pub along_of : List ℕ → ℕ → ℕ → ℕ
along_of xs x j = scaled_gap (get_or xs j 0) x + j

abbrev pub ray_to : List ℕ → List ℕ → ℕ → ℕ → ℕ → ℕ
ray_to xs gaps x r j = along_of xs x j + get_or gaps (j * places + r) 0

-- The point j is on a side of the crossing of the column x with the row r: east or west where its difference in y is no larger than
-- that in x, and north or south where it is larger.
abbrev pub Region : List ℕ → List ℕ → List ℕ → ℕ → ℕ → Side → ℕ → Type 0
Region xs gaps ranks x r east j = (x ≤ get_or xs j 0) × (get_or gaps (j * places + r) 0 ≤ along_of xs x j)
Region xs gaps ranks x r west j = (get_or xs j 0 < x) × (get_or gaps (j * places + r) 0 ≤ along_of xs x j)
Region xs gaps ranks x r north j = (r < get_or ranks j 0) × (along_of xs x j < get_or gaps (j * places + r) 0)
Region xs gaps ranks x r south j = (get_or ranks j 0 ≤ r) × (along_of xs x j < get_or gaps (j * places + r) 0)

-- k is the least ray of the first n points that are in a region, or that of no point.
pub record Nearest (rayOf : ℕ → ℕ) (Inside : ℕ → Type 0) (n k : ℕ) : Type 0 where
  pub is : (k ≡ far_ray) ⊎ ((i : ℕ) × (i < n) × Inside i × (k ≡ rayOf i))
  pub least : (i : ℕ) → i < n → Inside i → k ≤ rayOf i

-- The array has the least rays of the first n points, for each side and each of the first `count` rows.
pub record AtRows (xs gaps ranks : List ℕ) (x n count : ℕ) (least : List ℕ) : Type 0 where
  pub complements : Complements least
  pub near : (t : Side) (r : ℕ) → r < count → Nearest (ray_to xs gaps x r) (Region xs gaps ranks x r t) n (ray_at least t r)

-- What the search of a column asks of the points: their ranks and distances are those of at most 128 rows.
pub record ColumnGiven (xs gaps ranks : List ℕ) (n count : ℕ) : Type 0 where
  pub in_xs : n ≤ length xs
  pub in_ranks : n ≤ length ranks
  pub few : n ≤ places
  pub size : length gaps ≡ table_size
  pub rows : count ≤ places
  pub ranked : (j : ℕ) → j < n → get_or ranks j 0 ≤ count
  pub near : (j : ℕ) → j < n → (r : ℕ) → r < count → get_or gaps (j * places + r) 0 ≤ widest_gap

-- A ray that counts where P holds is taken where it is less than the one before: by their complements.
pub record Offered (P : Type 0) (k before after : ℕ) : Type 0 where
  pub taken : P → after ≡ max before (far_ray - k)
  pub unchanged : ¬ P → after ≡ before

-- What relaxing the rows from `from` to `to` asks: the distances of one point to the rows, from the place `start` on; its difference
-- in x and the complement of that; and the places of two sides, those of the flat one before those of the steep one.
pub record RelaxGiven (gaps : List ℕ) (start from to along complement : ℕ) (least : List ℕ) (steep flat : ℕ) : Type 0 where
  pub inside : start + to ≤ length gaps
  pub rises : from ≤ to
  pub apart : flat + to ≤ steep
  pub fits : steep + to ≤ ray_places
  pub short : along < widest_gap + places
  pub leaves : complement ≡ far_ray - along
  pub near : (r : ℕ) → r < to → get_or gaps (start + r) 0 ≤ widest_gap
  pub complements : Complements least

-- The place i is none of those of the rows from `from` to `to` on the two sides.
abbrev pub Elsewhere : ℕ → ℕ → ℕ → ℕ → ℕ → Type 0
Elsewhere steep flat from to i = (r : ℕ) → from ≤ r → r < to → ¬ (i ≡ steep + r) × ¬ (i ≡ flat + r)

-- The point's ray was offered to the rows from `from` to `to`, on the steep side where its difference in y is the larger, and else on
-- the flat side. The rest is as it was.
pub record Relaxed (gaps : List ℕ) (start from to along steep flat : ℕ) (before after : List ℕ) : Type 0 where
  pub complements : Complements after
  pub on_steep : (r : ℕ) → r < to → from ≤ r
      → Offered (along < get_or gaps (start + r) 0) (along + get_or gaps (start + r) 0) (get_or before (steep + r) 0) (get_or after (steep + r) 0)
  pub on_flat : (r : ℕ) → r < to → from ≤ r
      → Offered (get_or gaps (start + r) 0 ≤ along) (along + get_or gaps (start + r) 0) (get_or before (flat + r) 0) (get_or after (flat + r) 0)
  pub rest : (i : ℕ) → Elsewhere steep flat from to i → get_or after i 0 ≡ get_or before i 0

-- The place `flat` is that of the side, west or east, on which the point j is.
pub record FlatSide (xs : List ℕ) (x j flat : ℕ) : Type 0 where
  pub low : flat ≤ side_offset west
  pub is : ((get_or xs j 0 < x) × (flat ≡ side_offset west)) ⊎ ((x ≤ get_or xs j 0) × (flat ≡ side_offset east))
