-- The number of the i-th point in the file is i, and the keys' ends in rising order are the tree's runs in the listing order.
use mathlib.Core.Path.{◌≡◌, refl, sym, ap, ap₂, ◌∙◌, subst⁻¹}
use mathlib.Core.Logic.{⊎_elim}
use mathlib.Core.List.Memᴰ.{cases_cons as cases}
use mathlib.Core.List.Memᴰ.{head}
use mathlib.Core.List.Memᴰ.{tail}
use mathlib.Core.List.{List, [], ◌∷◌, ◌++◌, map, Memᴰ}
use mathlib.Core.List.Memᴰ.{not-nil}
use Prim.Native.Nat.{ℕ, zero, suc, ◌+◌, ◌≤◌, ◌<◌}
use native.Mathlib.Decide.{ℕ_discrete}
use native.Mathlib.Omega.{arith}
use lib.Dec.{T, ltb, lt→ltb, ltb→lt}
use lib.ListN.{length}
use Rattle.arrays.specs.Order.{Sorted}
use Rattle.spanning.proofs.Kruskal.{kruskal_in}
use Rattle.arrays.specs.Test.{if}
use Rattle.plane.specs.Point.{Point, lower, Lower}
use Rattle.plane.specs.Edge.{Edge, listed_before, planar}
use Rattle.arrays.proofs.Test.{by_test, then_by_cases, same_test}
use Rattle.arrays.proofs.Order.{tied}
use Rattle.plane.proofs.Order.{lower-order, listed-order}
use Rattle.arrays.specs.Set.{tie, set_of}
use Rattle.model.specs.Tree.{mst}
use Rattle.model.specs.File.{number_of}
use Rattle.arrays.proofs.Set.{tie-eq, no_tie}
use Rattle.arrays.proofs.SetMap.{union-map}
use Rattle.model.proofs.Tree.{mst-run-tree}
use Rattle.model.proofs.FileSize.{number-rises, number-below}
use Rattle.keys.specs.Keys.{key_graph, edge_of, all_keys, tree_keys, ends_of}
use Rattle.tree.specs.Ends.{ends_at}
use Rattle.arrays.specs.Tab.{tab}
use Rattle.tree.specs.Build.{Rises}
use Rattle.keys.proofs.All.{all_keys_in, key-ends}
use Rattle.arrays.proofs.Tab.{tab_in, tab-length}
use Rattle.tree.proofs.Sorted.{ps_sorted, tree_keys-mst}

-- The number of a point in two lists.
number-left : (l m : List Point) (p : Point) → Memᴰ p l → number_of (l ++ m) p ≡ number_of l p
unfolding number_of
number-left [] m p i = absurd (not-nil i)
number-left (q ∷ l) m p i =
    by_test (λ (x : ℕ). if (tie lower p q) (λ _. 0) (λ _. suc (number_of (l ++ m) p)) ≡ x) (tie lower p q) _ _
    (λ t. by_test (λ (x : ℕ). x ≡ 0) (tie lower p q) _ _ (λ u. refl) (λ u. absurd (no_tie lower lower-order p q u (tie-eq lower lower-order p q t))))
    (λ t. by_test (λ (x : ℕ). x ≡ suc (number_of l p)) (tie lower p q) _ _ (λ u. absurd (no_tie lower lower-order p q t (tie-eq lower lower-order p q u)))
    (λ u. ap suc (number-left l m p (⊎_elim (λ e. absurd (no_tie lower lower-order p q t e)) (λ j. j) (cases i)))))

number_right : (l m : List Point) (p : Point) → ¬ Memᴰ p l → number_of (l ++ m) p ≡ length l + number_of m p
unfolding number_of
number_right [] m p n = omega arith
number_right (q ∷ l) m p n =
    by_test (λ (x : ℕ). x ≡ suc (length l) + number_of m p) (tie lower p q) _ _ (λ t. absurd (n (head (tie-eq lower lower-order p q t))))
    (λ t. omega (arith, number_right l m p (λ i. n (tail i))))

-- The number of the i-th point is i.
pub number_at : (at : ℕ → Point) (n : ℕ) → n ≤ 128 → Rises at n → (i : ℕ) → i < n → number_of (tab at n) (at i) ≡ i
unfolding tab
number_at at zero small h i l = absurd (omega arith)
number_at at (suc n) small h i l = go (ℕ_discrete i n) (λ m. number_at at n (omega arith) (λ a b c d. h a b c (omega arith)) i m)
  where
    alone : number_of (at n ∷ []) (at n) ≡ 0
    alone =
        unfold number_of in
        by_test (λ (x : ℕ). x ≡ 0) (tie lower (at n) (at n)) _ _ (λ t. refl) (λ t. absurd (no_tie lower lower-order (at n) (at n) t refl))

    apart : ¬ Memᴰ (at n) (tab at n)
    apart m =
        let r = (tab_in at n (at n)).0 m in
        lower-order.irrefl (at n) (subst⁻¹ (λ (z : Point). Lower z (at n)) r.2 (h r.0 n r.1 (omega arith)))

    go : Dec (i ≡ n) → (i < n → number_of (tab at n) (at i) ≡ i) → number_of (tab at n ++ (at n ∷ [])) (at i) ≡ i
    go (yes e) rec =
        ap (λ (z : ℕ). number_of (tab at n ++ (at n ∷ [])) (at z)) e ∙ number_right (tab at n) (at n ∷ []) (at n) apart
        ∙ omega (arith, alone, tab-length at n)
    go (no e) rec =
        number-left (tab at n) (at n ∷ []) (at i) ((tab_in at n (at i)).1 (i, omega arith, refl)) ∙ rec (omega arith)

-- The listing order is the order of the two numbers.
abbrev Held : List Point → Edge → Type 0
Held ps e = Memᴰ e.lo ps × Memᴰ e.hi ps

ends-order : (ps : List Point) → Sorted Lower ps → length ps ≤ 128 → (e f : Edge) → Held ps e → Held ps f
    → listed_before e f ≡ ltb (ends_at ps e) (ends_at ps f)
ends-order ps rising few e f a b =
    same_test (listed_before e f) (ltb (ends_at ps e) (ends_at ps f)) (λ t. lt→ltb (ends_at ps e) (ends_at ps f) (up e f a b t)) down
  where
    up : (e f : Edge) → Held ps e → Held ps f → T (listed_before e f) → ends_at ps e < ends_at ps f
    up e f a b t =
        unfold listed_before in
        ⊎_elim
        (λ h. omega (arith, number-rises ps rising e.lo f.lo a.0 b.0 h, number-below ps e.hi a.1, number-below ps f.hi b.1))
        (λ c. let q = tied lower lower-order e.lo f.lo c.0 c.1 in
        omega (arith, number-rises ps rising e.hi f.hi a.1 b.1 c.2, ap (number_of ps) q))
        (then_by_cases (lower e.lo f.lo) (lower f.lo e.lo) (λ _. lower e.hi f.hi) t)

    down : T (ltb (ends_at ps e) (ends_at ps f)) → T (listed_before e f)
    down t =
        let h = ltb→lt (ends_at ps e) (ends_at ps f) t in
        ⊎_elim (λ g. g) (λ r. ⊎_elim (λ q. absurd (omega (arith, ap (ends_at ps) q))) (λ g. absurd (omega (arith, up f e b a g))) r) (listed-order.compare e f)

map-map : {A B C : Type 0} (f : A → B) (g : B → C) (h : A → C) (l : List A) → ((a : A) → Memᴰ a l → g (f a) ≡ h a) → map g (map f l) ≡ map h l
map-map f g h [] e = refl
map-map f g h (a ∷ l) e = ap₂ ◌∷◌ (e a (head refl)) (map-map f g h l (λ b i. e b (tail i)))

module _ (at : ℕ → Point) (n : ℕ) (small : n ≤ 128) (rises : Rises at n) where
  -- The keys' ends in rising order are the runs in the listing order.
  pub ends-listed : map (ends_at (tab at n)) (set_of listed_before (mst (tab at n))) ≡ set_of ltb (map ends_of (tree_keys at n))
  ends-listed =
      union-map (ends_at (tab at n)) listed_before ltb (Held (tab at n)) (ends-order (tab at n) sorted (omega (arith, tab-length at n))) listed-order
      (mst (tab at n)) [] held (λ e i. absurd (not-nil i))
      ∙ ap (set_of ltb) (ap (map (ends_at (tab at n))) (sym (tree_keys-mst at n small rises))
      ∙ map-map (edge_of at) (ends_at (tab at n)) ends_of (tree_keys at n) ends)
    where
      sorted : Sorted Lower (tab at n)
      sorted = ps_sorted at n small rises

      held : (e : Edge) → Memᴰ e (mst (tab at n)) → Held (tab at n) e
      held e i = unfold planar in (mst-run-tree (tab at n) sorted).tree.ends e i

      ends : (k : ℕ) → Memᴰ k (tree_keys at n) → ends_at (tab at n) (edge_of at k) ≡ ends_of k
      ends k i =
          unfold tree_keys in
          (let r = (all_keys_in at n k).0 (kruskal_in key_graph [] (all_keys at n) k i) in
          let e = key-ends at n k small r in
          omega (
            arith,
            ap (λ (z : ℕ). number_of (tab at n) (at z)) e.0,
            ap (λ (z : ℕ). number_of (tab at n) (at z)) e.1,
            number_at at n small rises r.i (omega arith),
            number_at at n small rises r.j r.below,
            e.0,
            e.1,
          ))
