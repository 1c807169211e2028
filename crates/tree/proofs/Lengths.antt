-- The total of the keys of points that rise is the length of their tree; with one more point c behind the last, it is the length
-- of the tree of the points with c.
use mathlib.Core.Path.{◌≡◌, refl, sym, ap, ap₂, ◌∙◌}
use mathlib.Core.Logic.{◌⊎◌, inl, inr, ⊎_elim, ◌↔◌}
use mathlib.Core.List.{[], Memᴰ}
use Prim.Native.Nat.{ℕ, suc, ◌≤◌, ◌<◌}
use native.Mathlib.Decide.{ℕ_discrete}
use native.Mathlib.Nat.{lt_irrefl}
use native.Mathlib.Omega.{arith}
use lib.Dec.{T_not, ltb, ltb→lt, lt→ltb}
use Rattle.spanning.specs.Graph.{total}
use Rattle.spanning.specs.Kruskal.{kruskal}
use Rattle.arrays.specs.Test.{if}
use Rattle.plane.specs.Point.{Point, lower}
use Rattle.arrays.proofs.Test.{by_test}
use Rattle.plane.proofs.Order.{lower-order}
use Rattle.arrays.specs.Set.{put, union}
use Rattle.model.specs.Tree.{tree_length}
use Rattle.arrays.proofs.Set.{put_in, put-sorted}
use Rattle.keys.specs.Keys.{weight, key_graph, rays, all_keys, tree_keys, joined_keys}
use Rattle.arrays.specs.Tab.{tab}
use Rattle.tree.specs.Build.{Rises}
use Rattle.keys.proofs.All.{rays_same, all_keys_same}
use Rattle.arrays.proofs.Tab.{tab_in}
use Rattle.tree.proofs.Sorted.{ps_sorted, one_to_one}
use Rattle.tree.proofs.Total.{tree_keys-total}

pub rising-total : (at : ℕ → Point) (n : ℕ) → n ≤ 128 → Rises at n → total weight (tree_keys at n) ≡ tree_length (tab at n)
rising-total at n small rises = tree_keys-total at n small (one_to_one at n small rises) (tab at n) (ps_sorted at n small rises) (tab_in at n)

-- The points with c behind the first n.
extended : (ℕ → Point) → Point → ℕ → ℕ → Point
extended at c n i = if (ltb i n) (λ _. at i) (λ _. c)

module _ (at : ℕ → Point) (c : Point) (n : ℕ) (small : n < 128) (rises : Rises at n) (apart : (i : ℕ) → i < n → ¬ (c ≡ at i)) where
  old : (i : ℕ) → i < n → extended at c n i ≡ at i
  unfolding extended
  old i h = by_test (λ (p : Point). p ≡ at i) (ltb i n) (λ _. at i) (λ _. c) (λ t. refl) (λ t. absurd (T_not (ltb i n) t (lt→ltb i n h)))

  new : extended at c n n ≡ c
  unfolding extended
  new = by_test (λ (p : Point). p ≡ c) (ltb n n) (λ _. at n) (λ _. c) (λ t. absurd (lt_irrefl n (ltb→lt n n t))) (λ t. refl)

  split : (i : ℕ) → i < suc n → (i ≡ n) ⊎ (i < n)
  split i h = go (ℕ_discrete i n)
    where
      go : Dec (i ≡ n) → (i ≡ n) ⊎ (i < n)
      go (yes e) = inl e
      go (no e) = inr (omega arith)

  -- The keys with c are those of the points extended by c.
  joined_is : joined_keys at c n ≡ tree_keys (extended at c n) (suc n)
  unfolding joined_keys tree_keys all_keys
  joined_is =
      ap (kruskal key_graph [])
      (ap₂ (union ltb)
      (rays_same at (extended at c n) c n n (λ i h. sym (old i h)) ∙ ap (λ (p : Point). rays (extended at c n) p n n) (sym new))
      (all_keys_same at (extended at c n) n (λ i h. sym (old i h))))

  one : (u v : ℕ) → u < suc n → v < suc n → extended at c n u ≡ extended at c n v → u ≡ v
  one u v hu hv e =
      ⊎_elim
      (λ p. ⊎_elim (λ q. p ∙ sym q) (λ l. absurd (apart v l (sym (ap (extended at c n) p ∙ new) ∙ e ∙ old v l))) (split v hv))
      (λ l. ⊎_elim (λ q. absurd (apart u l (sym (ap (extended at c n) q ∙ new) ∙ sym e ∙ old u l)))
      (λ m. one_to_one at n (omega arith) rises u v l m (sym (old u l) ∙ e ∙ old v m)) (split v hv))
      (split u hu)

  members : (p : Point) → Memᴰ p (put lower c (tab at n)) ↔ ((i : ℕ) × (i < suc n) × (p ≡ extended at c n i))
  members p = (
    λ m. ⊎_elim (λ e. (n, omega arith, e ∙ sym new)) (λ k. let r = (tab_in at n p).0 k in (r.0, omega arith, r.2 ∙ sym (old r.0 r.1)))
        ((put_in lower lower-order c p (tab at n)).0 m),
    λ r. (put_in lower lower-order c p (tab at n)).1
        (⊎_elim (λ e. inl (r.2 ∙ ap (extended at c n) e ∙ new)) (λ l. inr ((tab_in at n p).1 (r.0, l, r.2 ∙ old r.0 l))) (split r.0 r.1)),
  )

  pub joined-total : total weight (joined_keys at c n) ≡ tree_length (put lower c (tab at n))
  joined-total =
      ap (total weight) joined_is
      ∙ tree_keys-total (extended at c n) (suc n) (omega arith) one (put lower c (tab at n))
      (put-sorted lower lower-order c (tab at n) (ps_sorted at n (omega arith) rises)) members
