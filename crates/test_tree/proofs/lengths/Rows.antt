-- The length of a tree by its keys, and a row of lengths.
use mathlib.Core.Path.{◌≡◌, refl, sym, ap, ◌∙◌, subst}
use mathlib.Core.List.{List, [], ◌∷◌, ◌++◌}
use Prim.Native.Nat.{ℕ, suc, ◌+◌, ◌≤◌, ◌<◌}
use native.Mathlib.Numerals.{add-one}
use native.Mathlib.Omega.{arith}
use lib.ListN.{length, take, drop, get_or, set}
use lib.Seq.{drop-cons, set_at, append_snoc}
use Rattle.spanning.specs.Graph.{total}
use Rattle.spanning.specs.Kruskal.{kruskal}
use Rattle.arrays.specs.Set.{put, union}
use Rattle.model.specs.Tree.{pairs, edges, mst, tree_length}
use Rattle.keys.specs.Held.{held}
use Rattle.keys.specs.Keys.{weight, tree_keys}
use Rattle.arrays.specs.Tab.{tab}
use Rattle.tree.specs.Build.{length_with}
use Rattle.arrays.specs.Paste.{Pasted}
use Rattle.arrays.proofs.Tab.{tab-length}
use Rattle.tree.proofs.Lengths.{rising-total}
use Rattle.arrays.proofs.paste.Parts.{front-take, front-count}
use Rattle.tree.proofs.Size.{keys_most}
use Rattle.bottleneck.specs.Table.{Bottlenecks}
use Rattle.regions.specs.Rays.{table_size}
use Rattle.score.specs.Length.{Measured}
use Rattle.test_tree.specs.Answers.{Points}

-- With no other point the tree has no edge.
pub length_alone : (xs ys : List ℕ) (n x y : ℕ) → n ≡ 0 → 0 ≡ length_with xs ys n x y
unfolding tab put tree_length mst edges pairs union kruskal total
length_alone xs ys n x y e = rw e refl

-- A row of values at the front of an array, with one value more.
pub row_more : (f : ℕ → ℕ) (old new : List ℕ) (i v : ℕ) → i < length old → new ≡ tab f i ++ drop i old → v ≡ f i
    → set new i v ≡ tab f (i + 1) ++ drop (i + 1) old
row_more f old new i v h e ev =
    ap (λ (l : List ℕ). set l i v) (e ∙ ap (λ (l : List ℕ). tab f i ++ l) (drop-cons old i 0 h))
    ∙ set_at (tab f i) (get_or old i 0) (drop (suc i) old) v i (tab-length f i)
    ∙ sym (append_snoc (tab f i) v (drop (suc i) old))
    ∙ ap (λ (u : ℕ). (tab f i ++ (u ∷ [])) ++ drop (suc i) old) ev
    ∙ ap (λ (l : List ℕ). l ++ drop (suc i) old) more
    ∙ ap (λ (j : ℕ). tab f j ++ drop j old) (sym (add-one i))
  where
    more : tab f i ++ (f i ∷ []) ≡ tab f (suc i)
    more = unfold tab in refl

pub row_none : (f : ℕ → ℕ) (old : List ℕ) → old ≡ tab f 0 ++ drop 0 old
row_none f old = unfold tab in refl

-- The number of keys is small.
pub keys_few_lem : (xs ys before keys : List ℕ) (m : ℕ) → Points xs ys → Pasted (tree_keys (held xs ys) (length xs)) before keys 0 m → m ≤ 127
keys_few_lem xs ys before keys m p f =
    omega (arith, front-count f, p.few, keys_most (held xs ys) (length xs) (omega (arith, p.few)) p.rises)

-- What was worked out of the tree is what its length with a point more is measured by.
pub tree-measured : (xs ys before keys table : List ℕ) (m plain : ℕ) → Points xs ys → Pasted (tree_keys (held xs ys) (length xs)) before keys 0 m
    → plain ≡ total weight (take m keys) → length table ≡ table_size → Bottlenecks (take m keys) (length xs) table
    → Measured xs ys table plain
tree-measured xs ys before keys table m plain p f s size b =
    record {
      same = p.same;
      few = omega (arith, p.few);
      rises = p.rises;
      size = size;
      bottlenecks = subst (λ (l : List ℕ). Bottlenecks l (length xs) table) (front-take f) b;
      is = s ∙ ap (total weight) (front-take f) ∙ rising-total (held xs ys) (length xs) (omega (arith, p.few)) p.rises;
    }
