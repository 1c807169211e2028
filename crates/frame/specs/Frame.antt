-- The frame of a picture (SPEC 9.9): the box around the points of a deck, and where in the picture a point is drawn.
use Rattle.std.specs.Prelude.{◌≡◌, ℕ, ◌+◌, ◌*◌, ◌-◌, ◌≤◌, max, T, ℤ, pos}
use mathlib.Core.List.{List, [], ◌∷◌, map, Memᴰ}
use Rattle.std.specs.Int.Signed.{le_z}
use Rattle.plane.specs.Point.{Point, gap, dist}
use Rattle.plane.specs.Box.{least, greatest, spread}

-- The least and the greatest of whole numbers, 0 where there is none.
unfoldable pub lowest : List ℤ → ℤ
lowest [] = pos 0
lowest (a ∷ l) = least a l

unfoldable pub highest : List ℤ → ℤ
highest [] = pos 0
highest (a ∷ l) = greatest a l

-- The box around points: its left and its upper side, its width and its height in centimetres.
pub record Box : Type 0 where
  pub left : ℤ
  pub top : ℤ
  pub width : ℕ
  pub height : ℕ

unfoldable pub box_of : List Point → Box
box_of ps =
    let xs = map (λ (p : Point). p.x) ps in
    let ys = map (λ (p : Point). p.y) ps in
    record { left = lowest xs; top = highest ys; width = spread xs; height = spread ys }

-- The longer side of the box, 1 at least (U in SPEC 9.9): all sizes in the picture are multiples of it. A centimetre is `scale` units.
unfoldable pub long_side : Box → ℕ
long_side b = max 1 (max b.width b.height)

abbrev pub most_side : ℕ
most_side = 65535

abbrev pub scale : ℕ
scale = 400

-- The width and the height of the picture.
abbrev pub picture_width : Box → ℕ
picture_width b = 440 * long_side b

abbrev pub picture_height : Box → ℕ
picture_height b = scale * b.height + 120 * long_side b

-- How far from its left and from its upper side a point is drawn, by its x and by its y: the box stands in the middle, and 20 U from above.
unfoldable pub across_at : Box → ℤ → ℕ
across_at b x = 220 * long_side b - 200 * b.width + scale * gap b.left x

unfoldable pub down_at : Box → ℤ → ℕ
down_at b y = 20 * long_side b + scale * gap y b.top

-- How far two numbers are apart.
abbrev pub between : ℕ → ℕ → ℕ
between m n = (m - n) + (n - m)

-- The claim, of all points that a picture is made for: it has a size, also for one point; no point is drawn nearer to a side of the picture than 20 U, nor
-- to its lower side than 100 U, where the legend stands; of two points the one with the larger x is farther right, and the one with the larger y farther
-- up, both by the scale; so the path of a run has the length of the run, by the scale.
pub record Drawn (ps : List Point) : Type 0 where
  pub sized : 1 ≤ long_side (box_of ps)
  pub inside : (p : Point) → Memᴰ p ps → let b = box_of ps in
      (20 * long_side b ≤ across_at b p.x) × (across_at b p.x + 20 * long_side b ≤ picture_width b) × (20 * long_side b ≤ down_at b p.y)
      × (down_at b p.y + 100 * long_side b ≤ picture_height b)
  pub rightward : (p q : Point) → Memᴰ p ps → Memᴰ q ps → T (le_z p.x q.x)
      → across_at (box_of ps) q.x ≡ across_at (box_of ps) p.x + scale * gap p.x q.x
  pub upward : (p q : Point) → Memᴰ p ps → Memᴰ q ps → T (le_z p.y q.y)
      → down_at (box_of ps) p.y ≡ down_at (box_of ps) q.y + scale * gap p.y q.y
  pub lengths : (p q : Point) → Memᴰ p ps → Memᴰ q ps → let b = box_of ps in
      between (across_at b p.x) (across_at b q.x) + between (down_at b p.y) (down_at b q.y) ≡ scale * dist p q
