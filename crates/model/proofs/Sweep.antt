-- The sweep is settled by the words of SPEC 4.1: it leads to `prune s`, and to no other state. Each turn `lowest_weak` finds the lowest
-- Steiner point of at most two edges, or none; the tree of a turn is the only one of its points.
use mathlib.Core.Path.{◌≡◌, refl, sym, ap, ◌∙◌, subst, subst⁻¹}
use mathlib.Core.Logic.{◌⊎◌, inl, inr, ⊎_elim, ◌↔◌}
use mathlib.Core.Option.{Option, none, some, none-ne-some, some-ne-none}
use mathlib.Core.List.Memᴰ.{cases_cons as cases}
use mathlib.Core.List.Memᴰ.{not-nil}
use mathlib.Core.List.{List, [], ◌∷◌, Memᴰ}
use Prim.Native.Nat.{ℕ, zero, suc, ◌≤◌}
use native.Mathlib.Nat.{le_refl}
use native.Mathlib.Omega.{arith}
use lib.Dec.{leb→le}
use lib.ListN.{length}
use Rattle.arrays.specs.Order.{Sorted}
use Rattle.plane.specs.Point.{Point, lower, Lower}
use Rattle.plane.specs.Edge.{Edge}
use Rattle.plane.proofs.Order.{lower-order}
use Rattle.arrays.proofs.Test.{by_test}
use Rattle.model.specs.Tree.{mst, edges_at, TheTree}
use Rattle.model.specs.State.{State, points, strong, lowest_weak, without, prune_from, prune}
use Rattle.model.specs.Choice.{LowestWeak, SweptTo, kept, taken}
use Rattle.arrays.proofs.Set.{out-sorted, out-length}
use Rattle.model.proofs.Tree.{mst_the_tree, the_tree_unique}
use Rattle.model.proofs.Choice.{same_lowest}
use Rattle.model.proofs.Prune.{points-rise, LowestWeakView, all_strong, weak, lowest_weak_view, none_there, prune-step, prune-stop}

-- What the search finds in a rising list is lower than every other point of at most two edges.
found_lowest : (t : List Edge) (l : List Point) → Sorted Lower l → (q : Point) → lowest_weak t l ≡ some q
    → (p : Point) → Memᴰ p l → edges_at p t ≤ 2 → (p ≡ q) ⊎ Lower q p
unfolding lowest_weak
found_lowest t [] s q e p i two = absurd (not-nil i)
found_lowest t (a ∷ l) s q e p i two =
    by_test (λ (o : Option Point). o ≡ some q → (p ≡ q) ⊎ Lower q p) (strong t a) (λ _. lowest_weak t l) (λ _. some a)
    (λ h f. ⊎_elim (λ g. absurd (many (subst⁻¹ (λ (z : Point). 3 ≤ edges_at z t) g (leb→le 3 (edges_at a t) h))))
    (λ j. found_lowest t l s.1 q f p j two) (cases i))
    (λ n f. let same : a ≡ q = cc in ⊎_elim (λ g. inl (g ∙ same)) (λ j. inr (subst (λ (z : Point). Lower z p) same (s.0 p j))) (cases i)) e
  where
    many : 3 ≤ edges_at p t → ⊥
    many h = omega arith

-- The search finds a point exactly if it is the lowest of at most two edges, and none exactly if all have three or more.
pub lowest_weak_some : (t : List Edge) (l : List Point) → Sorted Lower l → (q : Point) → (lowest_weak t l ≡ some q) ↔ LowestWeak t l q
lowest_weak_some t l s q = (λ e. lowest q e, λ w. there w (lowest_weak t l) refl (lowest_weak_view t l))
  where
    held : (o : Option Point) (r : Point) → o ≡ some r → LowestWeakView t l o → Memᴰ r l × (edges_at r t ≤ 2)
    held o r e (all_strong f) = absurd (none-ne-some r e)
    held o r e (weak p i two) =
        let same : p ≡ r = cc in
        (subst (λ (z : Point). Memᴰ z l) same i, subst (λ (z : Point). edges_at z t ≤ 2) same two)

    lowest : (r : Point) → lowest_weak t l ≡ some r → LowestWeak t l r
    lowest r e =
        let h = held (lowest_weak t l) r e (lowest_weak_view t l) in
        record { held = h.0; weak = h.1; lowest = found_lowest t l s r e }

    there : LowestWeak t l q → (o : Option Point) → lowest_weak t l ≡ o → LowestWeakView t l o → lowest_weak t l ≡ some q
    there w o e (all_strong f) = absurd (let many = f q w.held in let two = w.weak in omega arith)
    there w o e (weak p i two) = e ∙ ap some (same_lowest p q (w.lowest p i two) ((lowest p e).lowest q w.held w.weak))

pub lowest_weak_none : (t : List Edge) (l : List Point) → (lowest_weak t l ≡ none) ↔ ((q : Point) → Memᴰ q l → 3 ≤ edges_at q t)
lowest_weak_none t l = go (lowest_weak_view t l)
  where
    go : {o : Option Point} → LowestWeakView t l o → (o ≡ none) ↔ ((q : Point) → Memᴰ q l → 3 ≤ edges_at q t)
    go (all_strong f) = (λ _. f, λ _. refl)
    go (weak q i two) = (λ e. absurd (some-ne-none q e), λ f. absurd (let many = f q i in omega arith))

-- The Steiner points left still rise, and are one fewer.
left-rise : (q : Point) (s : State) → Sorted Lower s.steiner → Sorted Lower (without q s).steiner
left-rise q s rise = out-sorted lower lower-order q s.steiner rise

left-few : (k : ℕ) (t : List Edge) (q : Point) (s : State) → Sorted Lower s.steiner → LowestWeak t s.steiner q → length s.steiner ≤ suc k
    → length (without q s).steiner ≤ k
left-few k t q s rise w few = omega (arith, out-length lower lower-order q s.steiner rise w.held)

swept_from : (k : ℕ) (s : State) → Sorted Lower s.steiner → length s.steiner ≤ k → SweptTo s (prune_from k s)
swept_from zero s rise few =
    subst⁻¹ (SweptTo s) (prune-stop 0 s ((lowest_weak_none (mst (points s)) s.steiner).1 all))
    (kept (mst (points s)) (mst_the_tree (points s) (points-rise s rise)) all)
  where
    all : (q : Point) → Memᴰ q s.steiner → 3 ≤ edges_at q (mst (points s))
    all q i = absurd (none_there s.steiner few q i)
swept_from (suc k) s rise few =
    go (lowest_weak t s.steiner) refl (λ q w. swept_from k (without q s) (left-rise q s rise) (left-few k t q s rise w few))
  where
    t : List Edge
    t = mst (points s)

    tree : TheTree (points s) t
    tree = mst_the_tree (points s) (points-rise s rise)

    go : (o : Option Point) → lowest_weak t s.steiner ≡ o
        → ((q : Point) → LowestWeak t s.steiner q → SweptTo (without q s) (prune_from k (without q s)))
        → SweptTo s (prune_from (suc k) s)
    go none e rec = subst⁻¹ (SweptTo s) (prune-stop (suc k) s e) (kept t tree ((lowest_weak_none t s.steiner).0 e))
    go (some q) e rec =
        let w = (lowest_weak_some t s.steiner rise q).0 e in
        subst⁻¹ (SweptTo s) (prune-step k s q e) (taken t q tree w (rec q w))

-- A sweep of a state whose Steiner points rise leads to `prune`.
pub prune-swept : (s : State) → Sorted Lower s.steiner → SweptTo s (prune s)
unfolding prune
prune-swept s rise = swept_from (length s.steiner) s rise (le_refl (length s.steiner))

only_from : {s r : State} → SweptTo s r → Sorted Lower s.steiner → (k : ℕ) → length s.steiner ≤ k → r ≡ prune_from k s
only_from (kept {s = s} t tree f) rise k few =
    sym (prune-stop k s (subst (λ (u : List Edge). lowest_weak u s.steiner ≡ none) (the_tree_unique (points s) (points-rise s rise) t tree)
    ((lowest_weak_none t s.steiner).1 f)))
only_from (taken {s = s} {r = r} t q tree w next) rise k few = go k few (only_from next (left-rise q s rise))
  where
    found : lowest_weak (mst (points s)) s.steiner ≡ some q
    found =
        subst (λ (u : List Edge). lowest_weak u s.steiner ≡ some q) (the_tree_unique (points s) (points-rise s rise) t tree)
        ((lowest_weak_some t s.steiner rise q).1 w)

    go : (n : ℕ) → length s.steiner ≤ n → ((m : ℕ) → length (without q s).steiner ≤ m → r ≡ prune_from m (without q s)) → r ≡ prune_from n s
    go zero h rec = absurd (none_there s.steiner h q w.held)
    go (suc n) h rec = rec n (left-few n t q s rise w h) ∙ sym (prune-step n s q found)

-- It leads to no other state.
pub swept_unique : {s r : State} → Sorted Lower s.steiner → SweptTo s r → r ≡ prune s
unfolding prune
swept_unique {s} rise w = only_from w rise (length s.steiner) (le_refl (length s.steiner))
