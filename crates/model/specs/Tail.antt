-- Tails (SPEC 1.6): the spare cable at each end of a run, and lengths with it (SPEC 1.4, 1.5). A tail of 0 leaves the distances alone.
use Rattle.std.specs.Prelude.{Bool, List, ℕ, ◌+◌, ◌*◌, leb, ltb}
use Rattle.arrays.specs.Test.{then_by}
use Rattle.spanning.specs.Graph.{total}
use Rattle.plane.specs.Point.{Point}
use Rattle.plane.specs.Edge.{Edge, edge_length, listed_before}
use Rattle.model.specs.Tree.{mst}

-- The tail of a deck where none is set, and the longest.
abbrev pub no_tail : ℕ
no_tail = 0

abbrev pub longest_tail : ℕ
longest_tail = 500

-- Whether a number is a tail length.
abbrev pub is_tail : ℕ → Bool
is_tail tail = leb tail longest_tail

-- The length of a run (SPEC 1.4): the distance of its ends, and a tail at each.
abbrev pub run_length : ℕ → Edge → ℕ
run_length tail e = edge_length e + 2 * tail

-- The length of runs together (SPEC 1.5), and of the tree of a set of points.
abbrev pub length_with : ℕ → List Edge → ℕ
length_with tail t = total (run_length tail) t

unfoldable pub tree_length_with : ℕ → List Point → ℕ
tree_length_with tail ps = length_with tail (mst ps)

-- The order of runs (SPEC 2.1), by the lengths with tails.
unfoldable pub before_with : ℕ → Edge → Edge → Bool
before_with tail r s =
    let m = run_length tail r in
    let n = run_length tail s in
    then_by (ltb m n) (ltb n m) (λ _. listed_before r s)
