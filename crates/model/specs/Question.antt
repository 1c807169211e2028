-- Questions on a deck (SPEC 4.6).
use Rattle.std.proofs.Math.Option.{Option}
use Rattle.std.specs.Prelude.{List, ℕ, length}
use Rattle.std.proofs.Math.ListN.{get_elem?}
use Rattle.plane.specs.Point.{Point}
use Rattle.plane.specs.Edge.{Edge, listed_before}
use Rattle.arrays.specs.Set.{set_of}
use Rattle.model.specs.Tree.{mst, edges_at}
use Rattle.model.specs.Tail.{tree_length_with}
use Rattle.model.specs.State.{State, points}
use Rattle.model.specs.Contents.{Contents}

-- The tree of a state (SPEC 2.2).
abbrev pub tree_of : State → List Edge
tree_of s = mst (points s)

-- The length of a state's tree with tails of some length, and of a deck's (SPEC 1.5).
abbrev pub length_of_state : ℕ → State → ℕ
length_of_state tail s = tree_length_with tail (points s)

abbrev pub length_of_contents : Contents → ℕ
length_of_contents c = length_of_state c.tail c.state

-- The runs in the listing order (SPEC 2.3).
unfoldable pub listed : State → List Edge
listed s = set_of listed_before (tree_of s)

-- The counts of pins, taps and runs.
abbrev pub pin_count : State → ℕ
pin_count s = length s.pins

abbrev pub steiner_count : State → ℕ
steiner_count s = length s.steiner

abbrev pub edge_count : State → ℕ
edge_count s = length (tree_of s)

-- The run at place i of the listing order, counted from 0; none beyond the last.
abbrev pub edge_at_place : ℕ → State → Option Edge
edge_at_place i s = get_elem? (listed s) i

-- How many runs end at a point; 0 if the deck does not hold it.
abbrev pub edge_count_at : Point → State → ℕ
edge_count_at p s = edges_at p (tree_of s)
