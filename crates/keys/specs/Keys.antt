-- Edges between numbered points as single numbers, and the trees of the first n points by them. `at` gives the point of a number.
use Rattle.std.specs.Prelude.{List, [], ◌∷◌, ℕ, zero, suc, ◌+◌, ◌*◌, ◌/◌, ◌%◌, min, ltb}
use Rattle.std.proofs.Math.Decide.{ℕ_discrete}
use Rattle.spanning.specs.Graph.{Graph}
use Rattle.spanning.specs.Kruskal.{kruskal}
use Rattle.arrays.specs.Test.{if}
use Rattle.plane.specs.Point.{Point, dist}
pub use Rattle.octants.specs.Octant.{octant_count}
pub use Rattle.plane.specs.Places.{places}
use Rattle.plane.specs.Edge.{Edge}
use Rattle.octants.specs.Nearest.{in_octant_of}
use Rattle.arrays.specs.Set.{union}
use Rattle.arrays.specs.Tab.{tab}

-- The longest edge: each of two coordinates of 16 bits differs by at most 65,535.
abbrev pub longest_edge : ℕ
longest_edge = 131070

-- An edge of length d between the points i and j, i the smaller: one comparison of keys compares lengths, then i, then j.
abbrev pub key : ℕ → ℕ → ℕ → ℕ
key d i j = (d * places + i) * places + j

-- The length and the two numbers of a key.
abbrev pub weight : ℕ → ℕ
weight k = k / (places * places)

abbrev pub low : ℕ → ℕ
low k = k / places % places

abbrev pub high : ℕ → ℕ
high k = k % places

-- Numbers and keys as a graph.
unfoldable pub key_graph : Graph ℕ ℕ
key_graph = record { lo = low; hi = high; dec = ℕ_discrete }

-- The edge between the points of a key.
abbrev pub edge_of : (ℕ → Point) → ℕ → Edge
edge_of at k = record { lo = at (low k); hi = at (high k) }

-- The keys from the first j points to the point c, whose number is n.
unfoldable pub rays : (ℕ → Point) → Point → ℕ → ℕ → List ℕ
rays at c n zero = []
rays at c n (suc j) = key (dist (at j) c) j n ∷ rays at c n j

-- The keys of all edges between the first n points, least first.
unfoldable pub all_keys : (ℕ → Point) → ℕ → List ℕ
all_keys at zero = []
all_keys at (suc n) = union ltb (rays at (at n) n n) (all_keys at n)

-- The keys of the tree of the first n points.
unfoldable pub tree_keys : (ℕ → Point) → ℕ → List ℕ
tree_keys at n = kruskal key_graph [] (all_keys at n)

-- The keys of the tree of the first n points and c, whose number is n.
unfoldable pub joined_keys : (ℕ → Point) → Point → ℕ → List ℕ
joined_keys at c n = kruskal key_graph [] (union ltb (rays at c n n) (all_keys at n))

-- No key: larger than every key, since the longest edge has 17 bits and two numbers have 14.
abbrev pub no_key : ℕ
no_key = 4294967295

-- The least key from one of the first j points in octant o of c to c, or no key.
unfoldable pub least_key : (ℕ → Point) → Point → ℕ → ℕ → ℕ → ℕ
least_key at c n o zero = no_key
least_key at c n o (suc j) =
    let rest = least_key at c n o j in
    if (in_octant_of o c (at j)) (λ _. min (key (dist (at j) c) j n) rest) (λ _. rest)

-- The least keys of the eight octants, from octant 0 on.
unfoldable pub octant_keys : (ℕ → Point) → Point → ℕ → List ℕ
octant_keys at c n = tab (λ (o : ℕ). least_key at c n o n) octant_count

-- The list without those that are no key.
unfoldable pub offered : List ℕ → List ℕ
offered [] = []
offered (k ∷ l) = if (ltb k no_key) (λ _. k ∷ offered l) (λ _. offered l)

-- The two numbers of a key as one number, which compares by the first and then the second: the listing order.
abbrev pub ends_of : ℕ → ℕ
ends_of k = k % (places * places)
