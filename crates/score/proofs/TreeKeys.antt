-- The keys of the tree of points stored in 16 bits: they fill the table of bottlenecks, and the tree is not long.
use mathlib.Core.Path.{◌≡◌, refl, ap, subst, subst⁻¹}
use mathlib.Core.List.Memᴰ.{head}
use mathlib.Core.List.Memᴰ.{tail}
use mathlib.Core.List.{List, [], ◌∷◌, Memᴰ}
use Prim.Native.Nat.{ℕ, ◌*◌, ◌≤◌, ◌<◌}
use native.Mathlib.Omega.{arith}
use lib.Dec.{T, ltb}
use lib.ListN.{length, get_or}
use Rattle.spanning.specs.Graph.{Conn, In, total}
use Rattle.arrays.specs.Order.{Sorted}
use Rattle.spanning.proofs.Kruskal.{kruskal_in, kruskal-sorted, kruskal_connects}
use Rattle.plane.specs.Point.{Point, dist}
use Rattle.model.specs.Tree.{tree_length}
use Rattle.tree.specs.Build.{Rises}
use Rattle.keys.specs.Held.{held}
use Rattle.keys.specs.Keys.{weight, key_graph, all_keys, tree_keys}
use Rattle.arrays.specs.Tab.{tab}
use Rattle.keys.proofs.Parts.{key-weight}
use Rattle.keys.proofs.All.{all_keys_in, all_keys-sorted, all_keys_join}
use Rattle.tree.proofs.Lengths.{rising-total}
use Rattle.tree.proofs.Size.{Words, near_words, keys_most}
use Rattle.bottleneck.specs.Table.{FillRequires}
use Rattle.regions.specs.Rays.{places, table_size, far}

-- The total of short keys.
total-most : (l : List ℕ) → ((k : ℕ) → Memᴰ k l → weight k ≤ far) → total weight l ≤ length l * far
unfolding total
total-most [] short = omega arith
total-most (k ∷ l) short = omega (arith, short k (head refl), total-most l (λ j m. short j (tail m)))

module _ (xs ys : List ℕ) (n : ℕ) (few : n < places) (wx : Words xs) (wy : Words ys) where
  key-short : (k : ℕ) → Memᴰ k (tree_keys (held xs ys) n) → weight k ≤ far
  unfolding tree_keys
  key-short k m =
      let r = (all_keys_in at n k).0 (kruskal_in key_graph [] (all_keys at n) k m) in
      omega (
        arith,
        ap weight r.same,
        key-weight (dist (at r.i) (at r.j)) r.i r.j (omega arith) (omega arith),
        near_words (get_or xs r.i 0) (get_or ys r.i 0) (get_or xs r.j 0) (get_or ys r.j 0) (wx r.i) (wy r.i) (wx r.j) (wy r.j),
      )
    where
      at : ℕ → Point
      at = held xs ys

  pub tree_filling : {keys : List ℕ} {size : ℕ} → keys ≡ tree_keys (held xs ys) n → size ≡ table_size → FillRequires keys n size
  unfolding tree_keys
  tree_filling tree size =
      record {
        few = omega arith;
        room = size;
        sorted = subst⁻¹ (Sorted (λ (a b : ℕ). T (ltb a b))) tree
            (kruskal-sorted key_graph (λ (a b : ℕ). T (ltb a b)) [] (all_keys at n) (all_keys-sorted at n));
        short = λ k i. omega (arith, key-short k (subst (λ (l : List ℕ). Memᴰ k l) tree i));
        joins = λ u v hu hv. subst⁻¹ (λ (l : List ℕ). Conn key_graph (In l) v u) tree
            ((kruskal_connects key_graph (all_keys at n)).1 (all_keys_join at n (omega arith) u v hu hv));
      }
    where
      at : ℕ → Point
      at = held xs ys

  pub tree-short : Rises (held xs ys) n → tree_length (tab (held xs ys) n) ≤ places * far
  tree-short rises =
      omega (
        arith,
        rising-total (held xs ys) n (omega arith) rises,
        total-most (tree_keys (held xs ys) n) key-short,
        keys_most (held xs ys) n (omega arith) rises,
      )
