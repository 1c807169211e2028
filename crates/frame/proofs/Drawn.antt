-- The claim on where points are drawn: the least and the greatest coordinate enclose each, so the gaps to the sides add up to the sides of the box.
use mathlib.Core.Path.{◌≡◌}
use mathlib.Core.List.Memᴰ
use mathlib.Core.List.Memᴰ.{not-nil}
use mathlib.Core.List.{List, [], ◌∷◌, map, Memᴰ}
use Prim.Native.Nat.{◌+◌, ◌*◌, ◌≤◌}
use native.Mathlib.Omega.{arith}
use lib.Dec.{T}
use lib.IntN.{ℤ}
use lib.Signed.{le_z}
use Rattle.plane.specs.Point.{Point, gap, dist}
use Rattle.plane.specs.Box.{spread}
use Rattle.plane.proofs.Box.{reaches_ends}
use Rattle.plane.proofs.Whole.{AtMost, at_most?, value_atmost}
use Rattle.plane.proofs.Metric.{gap_sym, gap-between}
use Rattle.frame.specs.Frame.{lowest, highest, Box, box_of, long_side, scale, across_at, down_at, between, Drawn}
use Rattle.frame.proofs.Box.{spread-ends}

-- A number of a list is between the least and the greatest of it.
enclosed : (l : List ℤ) (z : ℤ) → Memᴰ z l → T (le_z (lowest l) z) × T (le_z z (highest l))
unfolding lowest highest
enclosed [] z i = absurd (not-nil i)
enclosed (a ∷ l) z i = (reaches_ends a l).between z i

module _ (ps : List Point) where
  abbrev x_of : Point → ℤ
  x_of p = p.x

  abbrev y_of : Point → ℤ
  y_of p = p.y

  abbrev xs : List ℤ
  xs = map x_of ps

  abbrev ys : List ℤ
  ys = map y_of ps

  abbrev b : Box
  b = box_of ps

  wide : spread xs ≤ long_side b
  unfolding long_side box_of
  wide = omega arith

  high : spread ys ≤ long_side b
  unfolding long_side box_of
  high = omega arith

  some : 1 ≤ long_side b
  unfolding long_side
  some = omega arith

  -- The gaps to both sides, of a point of the list.
  across-parts : (p : Point) → Memᴰ p ps → gap (lowest xs) p.x + gap p.x (highest xs) ≡ spread xs
  across-parts p i =
      let e = enclosed xs p.x (Memᴰ.map x_of i) in
      omega (arith, gap-between (lowest xs) p.x (highest xs) e.0 e.1, spread-ends xs)

  down-parts : (p : Point) → Memᴰ p ps → gap (lowest ys) p.y + gap p.y (highest ys) ≡ spread ys
  down-parts p i =
      let e = enclosed ys p.y (Memᴰ.map y_of i) in
      omega (arith, gap-between (lowest ys) p.y (highest ys) e.0 e.1, spread-ends ys)

  -- To the right with x, and upward with y.
  right : (p q : Point) → Memᴰ p ps → T (le_z p.x q.x) → across_at b q.x ≡ across_at b p.x + scale * gap p.x q.x
  unfolding across_at box_of
  right p q i t = omega (arith, gap-between (lowest xs) p.x q.x (enclosed xs p.x (Memᴰ.map x_of i)).0 t)

  up : (p q : Point) → Memᴰ q ps → T (le_z p.y q.y) → down_at b p.y ≡ down_at b q.y + scale * gap p.y q.y
  unfolding down_at box_of
  up p q j t = omega (arith, gap-between p.y q.y (highest ys) t (enclosed ys q.y (Memᴰ.map y_of j)).1)

  -- Along each axis two points are as far apart as their coordinates, by the scale.
  along_x : (p q : Point) → Memᴰ p ps → Memᴰ q ps → between (across_at b p.x) (across_at b q.x) ≡ scale * gap p.x q.x
  along_x p q i j = go (at_most? p.x q.x)
    where
      go : Dec (AtMost p.x q.x) → between (across_at b p.x) (across_at b q.x) ≡ scale * gap p.x q.x
      go (yes h) = omega (arith, right p q i (value_atmost p.x q.x h))
      go (no n) = omega (arith, right q p j (value_atmost q.x p.x (omega arith)), gap_sym p.x q.x)

  along_y : (p q : Point) → Memᴰ p ps → Memᴰ q ps → between (down_at b p.y) (down_at b q.y) ≡ scale * gap p.y q.y
  along_y p q i j = go (at_most? p.y q.y)
    where
      go : Dec (AtMost p.y q.y) → between (down_at b p.y) (down_at b q.y) ≡ scale * gap p.y q.y
      go (yes h) = omega (arith, up p q j (value_atmost p.y q.y h))
      go (no n) = omega (arith, up q p i (value_atmost q.y p.y (omega arith)), gap_sym p.y q.y)

  pub drawn : Drawn ps
  unfolding across_at down_at box_of dist
  drawn =
      record {
        sized = some;
        inside =
            λ p i. (
              omega (arith, wide),
              omega (arith, wide, across-parts p i),
              omega arith,
              omega (arith, down-parts p i),
            );
        rightward = λ p q i j t. right p q i t;
        upward = λ p q i j t. up p q j t;
        lengths = λ p q i j. omega (arith, along_x p q i j, along_y p q i j);
      }
