-- How long an edge between stored points is, and how many keys a tree has.
use mathlib.Core.Path.{◌≡◌, sym, ap}
use mathlib.Core.List.{List}
use Prim.Native.Nat.{ℕ, suc, ◌≤◌, ◌<◌}
use native.Mathlib.Omega.{arith}
use lib.ListN.{length, get_or, length-map}
use Rattle.arrays.proofs.Members.{sorted_distinct}
use Rattle.spanning.proofs.Count.{tree-count}
use Rattle.plane.specs.Point.{Point, gap, dist}
use Rattle.plane.specs.Edge.{planar}
use Rattle.plane.specs.Coordinate.{coordinate}
use Rattle.plane.specs.Stored.{point_at}
use Rattle.plane.proofs.Whole.{gap-le}
use Rattle.plane.proofs.Order.{lower-order}
use Rattle.plane.proofs.Stored.{coordinate_value}
use Rattle.model.specs.Tree.{mst}
use Rattle.model.proofs.Tree.{mst-run-tree}
use Rattle.model.proofs.Bounds.{edges_fewer}
use Rattle.keys.specs.Keys.{edge_of, tree_keys}
use Rattle.arrays.specs.Tab.{tab}
use Rattle.tree.specs.Build.{Rises}
use Rattle.tree.proofs.Sorted.{ps_sorted, tree_keys-mst}
use Rattle.arrays.proofs.Tab.{tab-length}

-- Stored coordinates are 16 bits.
abbrev pub Words : List ℕ → Type 0
Words l = (i : ℕ) → get_or l i 0 < 65536

gap_words : (u v : ℕ) → u < 65536 → v < 65536 → gap (coordinate u) (coordinate v) ≤ 65535
gap_words u v hu hv =
    gap-le (coordinate u) (coordinate v) 65535 (omega (arith, coordinate_value u, coordinate_value v)) (omega (arith, coordinate_value u, coordinate_value v))

pub near_words : (ax ay bx by : ℕ) → ax < 65536 → ay < 65536 → bx < 65536 → by < 65536 → dist (point_at ax ay) (point_at bx by) ≤ 131070
unfolding dist
near_words ax ay bx by h i j k = omega (arith, gap_words ax bx h j, gap_words ay by i k)

-- How many keys a tree has.
pub keys_most : (at : ℕ → Point) (n : ℕ) → n ≤ 128 → Rises at n → length (tree_keys at n) ≤ n
keys_most at n small rises =
    omega (
      arith,
      sym (length-map (tree_keys at n) (edge_of at)),
      ap length (tree_keys-mst at n small rises),
      edges_fewer (tab at n) n (ps_sorted at n small rises) (omega (arith, tab-length at n)),
    )

keys_count : (at : ℕ → Point) (n : ℕ) → suc n ≤ 128 → Rises at (suc n) → length (tree_keys at (suc n)) ≡ n
keys_count at n small rises =
    omega (
      arith,
      sym (length-map (tree_keys at (suc n)) (edge_of at)),
      ap length (tree_keys-mst at (suc n) small rises),
      tree-count planar (tab at (suc n)) (mst (tab at (suc n))) (sorted_distinct lower-order (tab at (suc n)) (ps_sorted at (suc n) small rises))
          (mst-run-tree (tab at (suc n)) (ps_sorted at (suc n) small rises)).tree (omega (arith, tab-length at (suc n))),
      tab-length at (suc n),
    )

pub keys_grow : (at : ℕ → Point) (n : ℕ) → suc n ≤ 128 → Rises at (suc n) → length (tree_keys at n) ≤ length (tree_keys at (suc n))
keys_grow at n small rises = omega (arith, keys_count at n small rises, keys_most at n (omega arith) (λ i j h k. rises i j h (omega arith)))
