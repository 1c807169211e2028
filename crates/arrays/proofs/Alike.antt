-- The test of two lists passes exactly where they are equal; the first i elements of both are the same, and the loop goes on from there.
use mathlib.Core.Path.{◌≡◌, refl, sym, ap, ap₂, ◌∙◌}
use mathlib.Core.Bool.{Bool, true, false, ◌&&◌}
use mathlib.Core.List.{List, [], ◌∷◌}
use Prim.Native.Nat.{ℕ, suc, ◌+◌, ◌≤◌, ◌<◌}
use native.Mathlib.Numerals.{add-one}
use native.Mathlib.Omega.{arith}
use lib.Dec.{T, eqb}
use lib.Pointwise.{bytes_decides}
use lib.ListN.{length, drop, get_or, drop_of_length-le}
use lib.Seq.{drop-cons}
use borrow.Author.Tests.{eq-eqb, ne_eqb}
use Rattle.arrays.specs.Same.{same_list}
use Rattle.arrays.proofs.Test.{false_of, of_true, true_of}

-- The test passes exactly for equal lists.
pub same_refl : (l : List ℕ) → T (same_list l l)
same_refl l = of_true ((bytes_decides l l).1 refl)

pub same_eq : (l m : List ℕ) → T (same_list l m) → l ≡ m
same_eq l m t = (bytes_decides l m).0 (true_of (same_list l m) t)

pub same_not : (l m : List ℕ) → ¬ (l ≡ m) → false ≡ same_list l m
same_not l m n = sym (false_of (same_list l m) (λ t. n (same_eq l m t)))

-- The first i elements of two lists of one length are the same.
pub record Alike (a b : List ℕ) (i : ℕ) : Type 0 where
  pub within : i ≤ length a
  pub long : length a ≡ length b
  pub rest : same_list a b ≡ same_list (drop i a) (drop i b)

pub alike_none : {a b : List ℕ} → length a ≡ length b → Alike a b 0
alike_none e = record { within = omega arith; long = e; rest = refl }

module _ {a b : List ℕ} {i : ℕ} (p : Alike a b i) where
  step : i < length a → same_list a b ≡ eqb (get_or a i 0) (get_or b i 0) && same_list (drop (suc i) a) (drop (suc i) b)
  step h = p.rest ∙ ap₂ same_list (drop-cons a i 0 h) (drop-cons b i 0 (omega (arith, p.long)))

  pub alike_more : i < length a → get_or a i 0 ≡ get_or b i 0 → Alike a b (i + 1)
  alike_more h q =
      record {
        within = omega arith;
        long = p.long;
        rest =
            step h ∙ ap (λ (z : Bool). z && same_list (drop (suc i) a) (drop (suc i) b)) (eq-eqb (get_or a i 0) (get_or b i 0) q)
            ∙ ap (λ (z : ℕ). same_list (drop z a) (drop z b)) (sym (add-one i));
      }

  pub alike_fail : i < length a → ¬ (get_or a i 0 ≡ get_or b i 0) → false ≡ same_list a b
  alike_fail h q = sym (step h ∙ ap (λ (z : Bool). z && same_list (drop (suc i) a) (drop (suc i) b)) (ne_eqb (get_or a i 0) (get_or b i 0) q))

  pub alike_end : length a ≤ i → true ≡ same_list a b
  alike_end h = sym (p.rest ∙ ap₂ same_list (drop_of_length-le a {i = i} h) (drop_of_length-le b {i = i} (omega (arith, p.long))))
