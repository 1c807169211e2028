-- The search for the best crossing: what it asks of the points and their tree, and each step from the best so far.
use Rattle.std.specs.Prelude.{◌≡◌, List, [], ◌∷◌, ℕ, ◌+◌, ◌*◌, ◌<◌, ltb, length, get_or, Option as Found, Some, None}
use Rattle.std.proofs.Math.Option.{Option, none, some}
use Rattle.arrays.specs.Test.{if}
use Rattle.plane.specs.Point.{Point}
use Rattle.plane.specs.Coordinate.{stored_of}
use Rattle.plane.specs.Stored.{point_at}
use Rattle.tree.specs.Build.{Rises}
use Rattle.keys.specs.Held.{held}
use Rattle.keys.specs.Keys.{tree_keys}
use Rattle.arrays.specs.Tab.{tab}
use Rattle.regions.specs.Rays.{places, far}
use Rattle.score.specs.Gain.{table_at, gain, rays_at}
use Rattle.score.specs.Prepared.{spared_by}
use Rattle.search.specs.declared.found.Crossing.{Crossing}
use Rattle.search.specs.declared.found.Greatest.{Greatest}

-- The points rise, and the keys are those of their tree.
pub record TreeGiven (xs ys keys : List ℕ) : Type 0 where
  pub same : length xs ≡ length ys
  pub few : length xs < places
  pub rises : Rises (held xs ys) (length xs)
  pub tree : keys ≡ tree_keys (held xs ys) (length xs)

-- The points, lower first.
abbrev pub points_of : List ℕ → List ℕ → List Point
points_of xs ys = tab (held xs ys) (length xs)

-- A point that was found, or none, by its stored coordinates.
abbrev pub answer_of : Option Point → Found Crossing
answer_of none = None
answer_of (some p) = Some (record { x = stored_of p.x; y = stored_of p.y })

-- At each row the least rays gain what the crossing of x with the row spares.
abbrev pub Spares : List ℕ → ℕ → List ℕ → List ℕ → List Point → Type 0
Spares table x rows least ps =
    (r : ℕ) → r < length rows → gain (table_at table) (rays_at least r) ≡ spared_by ps (point_at x (get_or rows r 0))

-- The best so far, or the crossing at (x, y) where its gain g is greater.
abbrev pub greater : Greatest → ℕ → ℕ → ℕ → Greatest
greater s g x y = if (ltb s.gain g) (λ _. record { gain = g; best = Some (record { x = x; y = y }) }) (λ _. s)

-- The best so far, or the crossing c where it spares more.
unfoldable pub tried : List Point → Greatest → Point → Greatest
tried ps s c =
    let g = spared_by ps c in
    if (ltb s.gain g) (λ _. record { gain = g; best = answer_of (some c) }) (λ _. s)

-- The same for the crossings of a list, one after the other.
unfoldable pub try_all : List Point → Greatest → List Point → Greatest
try_all ps s [] = s
try_all ps s (c ∷ l) = try_all ps (tried ps s c) l

-- Nothing found, and no gain to beat.
abbrev pub nothing_found : Greatest
nothing_found = record { gain = 0; best = None }

-- No crossing gains more, among points that are stored in 16 bits: `far` for each edge of the longest tree, and once more.
abbrev pub most_gain : ℕ
most_gain = far + places * far

-- What the point that was found spares. Where none was, the bar: `far` and the two tails of one run more, which is what a crossing spares that saves
-- nothing.
abbrev pub gain_at : ℕ → List Point → Option Point → ℕ
gain_at tail ps none = far + 2 * tail
gain_at tail ps (some c) = spared_by ps c

-- What was found, with that gain.
abbrev pub greatest_at : ℕ → List Point → Option Point → Greatest
greatest_at tail ps found = record { gain = gain_at tail ps found; best = answer_of found }
