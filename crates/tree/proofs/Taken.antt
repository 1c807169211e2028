-- The points held by the first n of two arrays, and the tree that is built of these.
use mathlib.Core.Path.{◌≡◌, ap, ap₂, ◌∙◌, subst, subst⁻¹}
use mathlib.Core.List.{List, []}
use Prim.Native.Nat.{ℕ, ◌≤◌, ◌<◌}
use native.Mathlib.Omega.{arith}
use lib.ListN.{length, take}
use lib.Seq.{get_or-take, length-take-le}
use Rattle.arrays.specs.Paste.{Pasted}
use Rattle.spanning.specs.Kruskal.{kruskal}
use Rattle.plane.specs.Point.{Point, Lower}
use Rattle.plane.specs.Stored.{point_at}
use Rattle.keys.specs.Held.{held}
use Rattle.keys.specs.Keys.{key_graph, tree_keys}
use Rattle.keys.proofs.All.{all_keys_same}
use Rattle.tree.specs.Build.{BuildRequires}

module _ (xs ys : List ℕ) (n : ℕ) (hx : n ≤ length xs) (hy : n ≤ length ys) where
  taken : length (take n xs) ≡ n
  taken = length-take-le n xs hx

  held_taken : (i : ℕ) → i < n → held (take n xs) (take n ys) i ≡ held xs ys i
  held_taken i h = ap₂ point_at (get_or-take n xs i 0 h) (get_or-take n ys i 0 h)

  pub taken_allowed : {room : ℕ} → BuildRequires xs ys n room → BuildRequires (take n xs) (take n ys) (length (take n xs)) room
  taken_allowed p =
      record {
        in_xs = omega arith;
        in_ys = omega (arith, taken, length-take-le n ys hy);
        few = omega (arith, taken, p.few);
        fits = omega (arith, taken, p.fits);
        rises = λ i j l m.
            subst⁻¹ (λ (z : Point). Lower z (held (take n xs) (take n ys) j)) (held_taken i (omega (arith, taken, l, m)))
            (subst⁻¹ (Lower (held xs ys i)) (held_taken j (omega (arith, taken, m))) (p.rises i j l (omega (arith, taken, m))));
      }

  pub taken_built : {before after : List ℕ} {m : ℕ} → Pasted (tree_keys (held (take n xs) (take n ys)) (length (take n xs))) before after 0 m
      → Pasted (tree_keys (held xs ys) n) before after 0 m
  unfolding tree_keys
  taken_built {before} {after} {m} f =
      subst (λ (l : List ℕ). Pasted l before after 0 m)
      (ap (tree_keys (held (take n xs) (take n ys))) taken
      ∙ ap (kruskal key_graph []) (all_keys_same (held (take n xs) (take n ys)) (held xs ys) n held_taken)) f
