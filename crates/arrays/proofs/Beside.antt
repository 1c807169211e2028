-- Numbers beside the members of a list: what is looked up is what was put there, or `other`; and it goes along a map that keeps the order. By
-- induction over the two lists.
use mathlib.Core.Path.{◌≡◌, refl, sym, ap, ap₂, ◌∙◌, subst}
use mathlib.Core.Logic.{⊎_elim}
use mathlib.Core.Bool.{Bool, true, false, not}
use mathlib.Core.List.Memᴰ.{cases_cons as cases}
use mathlib.Core.List.Memᴰ.{head}
use mathlib.Core.List.Memᴰ.{tail}
use mathlib.Core.List.{List, [], ◌∷◌, map, Memᴰ}
use mathlib.Core.List.Memᴰ.{not-nil}
use Prim.Native.Nat.{ℕ, suc}
use native.Mathlib.Omega.{arith}
use lib.Dec.{T, ltb}
use lib.ListN.{length, get_or}
use Rattle.arrays.specs.Order.{StrictTotal, Sorted}
use Rattle.arrays.specs.Test.{if}
use Rattle.arrays.specs.Set.{tie}
use Rattle.arrays.specs.Array.{index_of}
use Rattle.arrays.specs.Beside.{beside}
use Rattle.arrays.proofs.Set.{tie-eq, no_tie}
use Rattle.arrays.proofs.Test.{by_test}
use Rattle.arrays.proofs.SetMap.{if-map, tie-map}

-- Two choices by one test with the same first arm.
second_arm : (t : Bool) (v x y : ℕ) → (T (not t) → x ≡ y) → if t (λ _. v) (λ _. x) ≡ if t (λ _. v) (λ _. y)
second_arm true v x y e = refl
second_arm false v x y e = e tt

-- What agrees on the members of a list is the same along it.
pub map-members : {A B : Type 0} (f g : A → B) (l : List A) → ((a : A) → Memᴰ a l → f a ≡ g a) → map f l ≡ map g l
map-members f g [] h = refl
map-members f g (a ∷ l) h = ap₂ ◌∷◌ (h a (head refl)) (map-members f g l (λ b i. h b (tail i)))

-- The number looked up is `other` or one of those beside the members.
pub beside_one : {A : Type 0} (less : A → A → Bool) (Q : ℕ → Type 0) (other : ℕ) → Q other → (a : A) (l : List A) (vs : List ℕ)
    → ((v : ℕ) → Memᴰ v vs → Q v) → Q (beside less other a l vs)
unfolding beside
beside_one less Q other q a [] vs h = q
beside_one less Q other q a (b ∷ l) [] h = q
beside_one less Q other q a (b ∷ l) (v ∷ vs) h =
    by_test Q (tie less a b) _ _ (λ t. h v (head refl)) (λ t. beside_one less Q other q a l vs (λ w i. h w (tail i)))

module _ {A : Type 0} (less : A → A → Bool) (order : StrictTotal (λ (a b : A). T (less a b))) where
  -- Beside a member of a list stands what g says of it, where g says what stands beside each.
  pub beside-each : (g : A → ℕ) (other : ℕ) (a : A) (l : List A) → Memᴰ a l → beside less other a l (map g l) ≡ g a
  unfolding beside
  beside-each g other a [] i = absurd (not-nil i)
  beside-each g other a (b ∷ l) i =
      by_test (λ (v : ℕ). v ≡ g a) (tie less a b) _ _ (λ t. ap g (sym (tie-eq less order a b t)))
      (λ t. beside-each g other a l (⊎_elim (λ e. absurd (no_tie less order a b t e)) (λ j. j) (cases i)))

  -- Where a is no member it is `other`, and where it is one, `other` does not matter.
  pub beside_none : (other : ℕ) (a : A) (l : List A) (vs : List ℕ) → ¬ Memᴰ a l → beside less other a l vs ≡ other
  unfolding beside
  beside_none other a [] vs n = refl
  beside_none other a (b ∷ l) [] n = refl
  beside_none other a (b ∷ l) (v ∷ vs) n =
      by_test (λ (w : ℕ). w ≡ other) (tie less a b) _ _ (λ t. absurd (n (head (tie-eq less order a b t))))
      (λ t. beside_none other a l vs (λ i. n (tail i)))

  pub beside_member : (x y : ℕ) (a : A) (l : List A) (vs : List ℕ) → length vs ≡ length l → Memᴰ a l → beside less x a l vs ≡ beside less y a l vs
  unfolding beside
  beside_member x y a [] vs e i = absurd (not-nil i)
  beside_member x y a (b ∷ l) [] e i = absurd (omega arith)
  beside_member x y a (b ∷ l) (v ∷ vs) e i =
      second_arm (tie less a b) v _ _
      (λ t. beside_member x y a l vs (omega arith) (⊎_elim (λ e. absurd (no_tie less order a b t e)) (λ j. j) (cases i)))

  -- The numbers beside the members of a strictly rising list, looked up one after the other, are these numbers.
  pub beside_all : (other : ℕ) (l : List A) → Sorted (λ (a b : A). T (less a b)) l → (vs : List ℕ) → length vs ≡ length l
      → map (λ (a : A). beside less other a l vs) l ≡ vs
  unfolding beside
  beside_all other [] s [] e = refl
  beside_all other [] s (v ∷ vs) e = absurd (omega arith)
  beside_all other (b ∷ l) s [] e = absurd (omega arith)
  beside_all other (b ∷ l) s (v ∷ vs) e =
      ap₂ ◌∷◌ here (map-members _ _ l (λ a i. behind a i) ∙ beside_all other l s.1 vs (omega arith))
    where
      here : if (tie less b b) (λ _. v) (λ _. beside less other b l vs) ≡ v
      here = by_test (λ (w : ℕ). w ≡ v) (tie less b b) _ _ (λ t. refl) (λ t. absurd (no_tie less order b b t refl))

      behind : (a : A) → Memᴰ a l → if (tie less a b) (λ _. v) (λ _. beside less other a l vs) ≡ beside less other a l vs
      behind a i =
          by_test (λ (w : ℕ). w ≡ beside less other a l vs) (tie less a b) _ _
          (λ t. absurd (order.irrefl b (subst (λ (z : A). T (less b z)) (tie-eq less order a b t) (s.0 a i)))) (λ t. refl)

-- By the index, among numbers.
pub beside_index : (other k : ℕ) (l vs : List ℕ) → length vs ≡ length l → beside ltb other k l vs ≡ get_or vs (index_of k l) other
unfolding beside index_of
beside_index other k [] [] e = refl
beside_index other k [] (v ∷ vs) e = absurd (omega arith)
beside_index other k (b ∷ l) [] e = absurd (omega arith)
beside_index other k (b ∷ l) (v ∷ vs) e =
    second_arm (tie ltb k b) v _ _ (λ t. beside_index other k l vs (omega arith)) ∙ go (tie ltb k b)
  where
    go : (t : Bool) → if t (λ _. v) (λ _. get_or vs (index_of k l) other) ≡ get_or (v ∷ vs) (if t (λ _. 0) (λ _. suc (index_of k l))) other
    go true = refl
    go false = refl

-- Along a map that keeps the order.
module _ {A B : Type 0} (f : A → B) (less : A → A → Bool) (less' : B → B → Bool) (Q : A → Type 0)
    (agree : (a b : A) → Q a → Q b → less a b ≡ less' (f a) (f b)) where
  pub beside-map : (other : ℕ) (a : A) → Q a → (l : List A) → ((b : A) → Memᴰ b l → Q b) → (vs : List ℕ)
      → beside less other a l vs ≡ beside less' other (f a) (map f l) vs
  unfolding beside
  beside-map other a p [] h vs = refl
  beside-map other a p (b ∷ l) h [] = refl
  beside-map other a p (b ∷ l) h (v ∷ vs) =
      if-map (λ (w : ℕ). w) (tie less a b) (tie less' (f a) (f b)) _ _ _ _ (tie-map f less less' Q agree a b p (h b (head refl))) refl
      (beside-map other a p l (λ c i. h c (tail i)) vs)
