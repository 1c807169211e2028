-- The tree of a set of points: Kruskal's method over all edges, and what SPEC 2.2 says THE tree is.
use Rattle.std.specs.Prelude.{◌≡◌, ℕ, ◌≤◌}
use mathlib.Core.List.{List, [], ◌∷◌, ◌++◌, map, Memᴰ}
use Rattle.spanning.specs.Graph.{Tree, total, degree}
use Rattle.arrays.specs.Order.{Sorted, First}
use Rattle.spanning.specs.Kruskal.{kruskal}
use Rattle.plane.specs.Point.{Point}
use Rattle.plane.specs.Edge.{Edge, Rising, edge_length, before, Before, planar}
use Rattle.arrays.specs.Set.{set_of}

-- Each point with every later one.
unfoldable pub pairs : List Point → List Edge
pairs [] = []
pairs (p ∷ l) = map (λ (q : Point). record { lo = p; hi = q }) l ++ pairs l

-- All edges over a set of points, in the order of runs (SPEC 2.1).
unfoldable pub edges : List Point → List Edge
edges ps = set_of before (pairs ps)

-- The tree of a set of points, by Kruskal's method.
unfoldable pub mst : List Point → List Edge
mst ps = kruskal planar [] (edges ps)

-- The distances of a list of edges together: their length without tails.
abbrev pub length_of : List Edge → ℕ
length_of t = total edge_length t

-- The same of the tree of a set of points.
unfoldable pub tree_length : List Point → ℕ
tree_length ps = length_of (mst ps)

-- The number of edges at a point.
abbrev pub edges_at : Point → List Edge → ℕ
edges_at p t = degree planar p t

-- A tree over the points as a set of runs: a tree, each run from its lower to its higher end, listed in the order of runs.
pub record RunTree (ps : List Point) (t : List Edge) : Type 0 where
  pub tree : Tree planar ps t
  pub rising : (e : Edge) → Memᴰ e t → Rising e
  pub sorted : Sorted Before t

-- THE tree (SPEC 2.2), without tails: no tree is shorter, and of those as long it comes first. Tails change nothing of it (TailClaim.antt).
pub record TheTree (ps : List Point) (t : List Edge) : Type 0 where
  pub tree : RunTree ps t
  pub least : (u : List Edge) → RunTree ps u → length_of t ≤ length_of u
  pub first : (u : List Edge) → RunTree ps u → length_of u ≡ length_of t → First Before t u
