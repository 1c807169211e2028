-- The edges of a state as numbers, and an edge read back from them.
use Rattle.std.specs.Prelude.{◌≡◌, List, map, ℕ, T}
use Rattle.std.proofs.Math.Option.{some}
use Rattle.std.proofs.Math.ListN.{get_elem?}
use Rattle.plane.specs.Edge.{Edge}
use Rattle.plane.specs.Code.{point_of, is_code}
use Rattle.model.specs.State.{State, points}
use Rattle.model.specs.Tail.{run_length}
use Rattle.model.specs.Question.{listed}
use Rattle.tree.specs.Ends.{ends_at}
use Rattle.points.specs.Coded.{padded, places}
use Rattle.edges.specs.declared.CodedEdge.{CodedEdge}

-- The edges of a state in the listing order, each by the numbers of its ends in one.
abbrev pub edge_numbers : State → List ℕ
edge_numbers s = map (ends_at (points s)) (listed s)

-- The same at the front of an array, with zeros behind.
abbrev pub edge_row : State → List ℕ
edge_row s = padded places (edge_numbers s)

-- The edge between two points given by their codes.
abbrev pub edge_of : CodedEdge → Edge
edge_of e = record { lo = point_of e.low; hi = point_of e.high }

-- An edge is the one at place i of the listing order, with its length; its ends are codes of points in range.
pub record EdgeAt (tail : ℕ) (s : State) (i : ℕ) (e : CodedEdge) : Type 0 where
  pub there : get_elem? (listed s) i ≡ some (edge_of e)
  pub measured : e.length ≡ run_length tail (edge_of e)
  pub coded : T (is_code e.low) × T (is_code e.high)
