-- What is said of the first of some points is said by their places alone: the first n of two lists, as two lists of their own.
use mathlib.Core.Path.{◌≡◌, sym, ap, ap₂, ◌∙◌}
use mathlib.Core.List.{List, []}
use Prim.Native.Nat.{ℕ, ◌≤◌, ◌<◌}
use native.Mathlib.Omega.{arith}
use lib.ListN.{length, take}
use lib.Seq.{get_or-take, length-take-le}
use Rattle.spanning.specs.Kruskal.{kruskal}
use Rattle.plane.specs.Stored.{point_at}
use Rattle.arrays.specs.Tab.{tab}
use Rattle.arrays.proofs.Tab.{tab_same}
use Rattle.tree.specs.Build.{Rises}
use Rattle.keys.specs.Held.{held}
use Rattle.keys.specs.Keys.{places, key_graph, tree_keys}
use Rattle.keys.proofs.All.{all_keys_same}
use Rattle.search.specs.Search.{TreeGiven, points_of}

module _ (xs ys : List ℕ) (n : ℕ) (in_xs : n ≤ length xs) (in_ys : n ≤ length ys) where
  size : length (take n xs) ≡ n
  size = length-take-le n xs in_xs

  first_held : (i : ℕ) → i < n → held (take n xs) (take n ys) i ≡ held xs ys i
  first_held i h = ap₂ point_at (get_or-take n xs i 0 h) (get_or-take n ys i 0 h)

  pub first_points : points_of (take n xs) (take n ys) ≡ tab (held xs ys) n
  first_points = rw size (tab_same _ _ n first_held)

  pub first_given : (keys : List ℕ) → n < places → Rises (held xs ys) n → keys ≡ tree_keys (held xs ys) n → TreeGiven (take n xs) (take n ys) keys
  unfolding tree_keys
  first_given keys few rises tree =
      record {
        same = omega (arith, size, length-take-le n ys in_ys);
        few = omega (arith, size);
        rises = λ i j l h. rw (first_held i (omega (arith, size)), first_held j (omega (arith, size))) (rises i j l (omega (arith, size)));
        tree = rw size (tree ∙ ap (kruskal key_graph []) (all_keys_same (held xs ys) (held (take n xs) (take n ys)) n (λ i h. sym (first_held i h))));
      }
