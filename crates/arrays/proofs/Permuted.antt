-- Lists with the same elements in another order: members, length, and what holds of each element or of every two of them. By recursion over how
-- the one is made of the other.
use mathlib.Core.Path.{◌≡◌, refl, sym, ap, ◌∙◌, subst}
use mathlib.Core.Logic.{⊎_elim}
use mathlib.Core.List.Memᴰ.{cases_cons as cases}
use mathlib.Core.List.Memᴰ.{head}
use mathlib.Core.List.Memᴰ.{tail}
use mathlib.Core.List.{List, [], ◌∷◌, ◌++◌, Memᴰ}
use mathlib.Core.List.Permᴰ.{cons as behind}
use mathlib.Core.List.Permᴰ.{nil as same}
use mathlib.Core.List.Permᴰ.{swap as swapped}
use mathlib.Core.List.Permᴰ.{trans as twice}
use mathlib.Core.List.{Permᴰ as Permuted}
use mathlib.Core.List.Permᴰ
use Prim.Native.Nat.{suc}
use lib.ListN.{length}
use Rattle.arrays.specs.Order.{Sorted}
use Rattle.arrays.specs.Set.{Each}

module _ {A : Type 0} where
  pub permuted_in : {l m : List A} → Permuted l m → {a : A} → Memᴰ a l → Memᴰ a m
  permuted_in same i = i
  permuted_in (behind e d) i = ⊎_elim (λ f. head (f ∙ e)) (λ j. tail (permuted_in d j)) (cases i)
  permuted_in (swapped e f) i = ⊎_elim (λ g. tail (head (g ∙ e))) (λ j. ⊎_elim (λ g. head (g ∙ f)) (λ k. tail (tail k)) (cases j)) (cases i)
  permuted_in (twice c d) i = permuted_in d (permuted_in c i)

  pub permuted_length : {l m : List A} → Permuted l m → length l ≡ length m
  permuted_length same = refl
  permuted_length (behind e d) = ap suc (permuted_length d)
  permuted_length (swapped e f) = refl
  permuted_length (twice c d) = permuted_length c ∙ permuted_length d

  pub permuted_each : (Q : A → Type 0) {l m : List A} → Permuted l m → Each Q l → Each Q m
  permuted_each Q same h = h
  permuted_each Q (behind e d) h = (subst Q e h.0, permuted_each Q d h.1)
  permuted_each Q (swapped e f) h = (subst Q f h.1.0, (subst Q e h.0, h.1.1))
  permuted_each Q (twice c d) h = permuted_each Q d (permuted_each Q c h)

  -- What holds of every two elements, whichever of them comes first.
  pub permuted_pairs : (R : A → A → Type 0) → ((a b : A) → R a b → R b a) → {l m : List A} → Permuted l m → Sorted R l → Sorted R m
  permuted_pairs R turn same s = s
  permuted_pairs R turn (behind e d) s =
      (λ b i. subst (λ (a : A). R a b) e (s.0 b (permuted_in (Permᴰ.symm d) i)), permuted_pairs R turn d s.1)
  permuted_pairs R turn (swapped {a = a} {b = b} e f) s = (
    λ c i. subst (λ (z : A). R z c) f
        (⊎_elim (λ g. subst (R b) (e ∙ sym g) (turn a b (s.0 b (head refl)))) (λ j. s.1.0 c j) (cases i)),
    (λ c i. subst (λ (z : A). R z c) e (s.0 c (tail i)), s.1.1),
  )
  permuted_pairs R turn (twice c d) s = permuted_pairs R turn d (permuted_pairs R turn c s)

  -- Two lists in front of a third change places.
  pub permuted_parts : (k l m : List A) → Permuted (k ++ (l ++ m)) (l ++ (k ++ m))
  permuted_parts [] l m = Permᴰ.refl (l ++ m)
  permuted_parts (a ∷ k) l m = twice (behind refl (permuted_parts k l m)) (Permᴰ.symm (Permᴰ.middle a l (k ++ m)))
