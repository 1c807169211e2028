-- The test for zeros passes exactly at a row of zeros.
use mathlib.Core.Path.{◌≡◌, refl, sym, subst}
use mathlib.Core.Logic.{◌↔◌}
use mathlib.Core.List.{List, [], ◌∷◌}
use Prim.Native.Nat.{ℕ, zero, suc}
use lib.Dec.{T, eqb, eqb→eq}
use lib.ListN.{length, replicate}
use Rattle.arrays.proofs.Test.{and_parts}
use Rattle.arrays.specs.Array.{all_zero}

zeros_all : (n : ℕ) → T (all_zero (replicate n 0))
unfolding all_zero
zeros_all zero = tt
zeros_all (suc n) = zeros_all n

pub all_zero_lem : (l : List ℕ) → T (all_zero l) ↔ (l ≡ replicate (length l) 0)
unfolding all_zero
all_zero_lem l = (forth l, λ e. subst (λ (m : List ℕ). T (all_zero m)) (sym e) (zeros_all (length l)))
  where
    forth : (l : List ℕ) → T (all_zero l) → l ≡ replicate (length l) 0
    forth [] t = refl
    forth (b ∷ l) t =
        let parts = and_parts (eqb b 0) (all_zero l) t in
        λ j. eqb→eq b 0 parts.0 j ∷ forth l parts.1 j
