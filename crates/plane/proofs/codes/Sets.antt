-- Sets of codes are sets of points: `point_of` keeps the order of codes, and the operations on sets go along such a map.
use mathlib.Core.Path.{◌≡◌}
use mathlib.Core.List.{List, map}
use Prim.Native.Nat.{ℕ}
use lib.Dec.{T, ltb}
use Rattle.plane.specs.Point.{lower}
use Rattle.plane.specs.Code.{point_of, is_code}
use Rattle.arrays.proofs.Order.{nat_order}
use Rattle.plane.proofs.codes.Points.{AllCodes, code-order}
use Rattle.arrays.specs.Beside.{beside}
use Rattle.arrays.specs.Set.{put, out, has, union, rising}
use Rattle.arrays.proofs.Beside.{beside-map}
use Rattle.arrays.proofs.SetMap.{put_map, out-map, has_map, union-map, rising-map}

abbrev IsCode : ℕ → Type 0
IsCode k = T (is_code k)

pub points-put : (k : ℕ) → T (is_code k) → (l : List ℕ) → AllCodes l → map point_of (put ltb k l) ≡ put lower (point_of k) (map point_of l)
points-put = put_map point_of ltb lower IsCode code-order

pub points-out : (k : ℕ) → T (is_code k) → (l : List ℕ) → AllCodes l → map point_of (out ltb k l) ≡ out lower (point_of k) (map point_of l)
points-out = out-map point_of ltb lower IsCode code-order

pub points_has : (k : ℕ) → T (is_code k) → (l : List ℕ) → AllCodes l → has ltb k l ≡ has lower (point_of k) (map point_of l)
points_has = has_map point_of ltb lower IsCode code-order

pub points-beside : (other k : ℕ) → T (is_code k) → (l : List ℕ) → AllCodes l → (vs : List ℕ)
    → beside ltb other k l vs ≡ beside lower other (point_of k) (map point_of l) vs
points-beside = beside-map point_of ltb lower IsCode code-order

pub points-union : (l m : List ℕ) → AllCodes l → AllCodes m → map point_of (union ltb l m) ≡ union lower (map point_of l) (map point_of m)
points-union = union-map point_of ltb lower IsCode code-order nat_order

pub points-rising : (l : List ℕ) → AllCodes l → rising ltb l ≡ rising lower (map point_of l)
points-rising = rising-map point_of ltb lower IsCode code-order
