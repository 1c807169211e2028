-- Edges (SPEC 1.4: runs) and their order (SPEC 2.1, 2.3).
use Rattle.std.specs.Prelude.{◌≡◌, Bool, ℕ, ◌<◌, T, ltb}
use Rattle.spanning.specs.Graph.{Graph}
use Rattle.arrays.specs.Test.{if, then_by}
use Rattle.plane.specs.Point.{Point, lower, Lower, dist, point_dec}

-- An edge (a run) as its lower and its higher end. `Rising` says that they are so, and then they are different points.
pub record Edge : Type 0 where
  pub lo : Point
  pub hi : Point

abbrev pub Rising : Edge → Type 0
Rising e = Lower e.lo e.hi

-- The edge between two points, whichever is lower.
unfoldable pub joining : Point → Point → Edge
joining p q = if (lower p q) (λ _. record { lo = p; hi = q }) (λ _. record { lo = q; hi = p })

-- The distance of the ends of a run, which is its length without tails (SPEC 1.4).
abbrev pub edge_length : Edge → ℕ
edge_length e = dist e.lo e.hi

-- The listing order (SPEC 2.3): by the lower end, then by the higher. It also decides among runs of equal length.
unfoldable pub listed_before : Edge → Edge → Bool
listed_before r s = then_by (lower r.lo s.lo) (lower s.lo r.lo) (λ _. lower r.hi s.hi)

-- The order of runs (SPEC 2.1): by length, then as they are listed.
unfoldable pub before : Edge → Edge → Bool
before r s =
    let m = edge_length r in
    let n = edge_length s in
    then_by (ltb m n) (ltb n m) (λ _. listed_before r s)

-- r comes before s, by that test.
abbrev pub Before : Edge → Edge → Type 0
Before r s = T (before r s)

-- The same order as a relation (SPEC 2.1): r is shorter than s; or as long, and its lower end is the lower of the two; or its lower end
-- is the same too, and its higher end the lower of the two.
pub data ComesBefore (r s : Edge) : Type 0 where
  shorter : edge_length r < edge_length s → ComesBefore r s
  by_lower_end : edge_length r ≡ edge_length s → Lower r.lo s.lo → ComesBefore r s
  by_higher_end : edge_length r ≡ edge_length s → r.lo ≡ s.lo → Lower r.hi s.hi → ComesBefore r s

-- Points and edges as a graph.
unfoldable pub planar : Graph Point Edge
planar = record { lo = λ e. e.lo; hi = λ e. e.hi; dec = point_dec }
