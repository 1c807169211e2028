-- The kit's quotient is the one toward zero, and no other number is: by its size, which is that of the sizes, and by its sign.
use mathlib.Core.Path.{◌≡◌, refl, sym, ap, subst, ◌∙◌}
use Prim.Native.Nat.{ℕ, zero, suc, ◌+◌, ◌*◌, ◌/◌, ◌≤◌, ◌<◌}
use native.Mathlib.Nat.{suc-mul, div-mul-le_self, lt-div-mul-add, div-eq_of_lt-le, zero-div}
use native.Mathlib.Omega.{arith}
use lib.Dec.{T, leb→le, le→leb}
use lib.IntN.{ℤ, pos, negsuc, neg_ℤ, nat_abs}
use lib.Signed.{le_z, quot_z}
use Rattle.arrow.specs.Claim.{TowardZero}

neg_size : (k : ℕ) → nat_abs (neg_ℤ (pos k)) ≡ k
neg_size zero = refl
neg_size (suc k) = refl

-- Without signs it is the quotient of natural numbers.
pub quotient-size : (d : ℤ) (n : ℕ) → nat_abs (quot_z d (pos n)) ≡ nat_abs d / n
quotient-size (pos a) n = refl
quotient-size (negsuc a) n = neg_size (suc a / n)

neg_below : (k : ℕ) → T (le_z (neg_ℤ (pos k)) (pos 0))
neg_below zero = tt
neg_below (suc k) = tt

above_zero : (d : ℤ) (n : ℕ) → T (le_z (pos 0) d) → T (le_z (pos 0) (quot_z d (pos n)))
above_zero (pos a) n t = le→leb 0 (a / n) (omega arith)
above_zero (negsuc a) n t = absurd t

below-zero : (d : ℤ) (n : ℕ) → T (le_z d (pos 0)) → T (le_z (quot_z d (pos n)) (pos 0))
below-zero (pos a) n t =
    let z : a ≡ 0 = omega (arith, leb→le a 0 t) in
    subst (λ (b : ℕ). T (le_z (pos b) (pos 0))) (sym (ap (λ (b : ℕ). b / n) z ∙ zero-div n)) tt
below-zero (negsuc a) n t = neg_below (suc a / n)

pub toward_zero : (d : ℤ) (n : ℕ) → 0 < n → TowardZero d n (quot_z d (pos n))
toward_zero d n h =
    record {
      goes = subst (λ (k : ℕ). k * n ≤ nat_abs d) (sym (quotient-size d n)) (div-mul-le_self (nat_abs d) n);
      most = subst (λ (k : ℕ). nat_abs d < k * n + n) (sym (quotient-size d n)) (lt-div-mul-add h);
      above = above_zero d n;
      below = below-zero d n;
    }

-- The size of any quotient toward zero.
size_is : (d : ℤ) (n : ℕ) (q : ℤ) → TowardZero d n q → nat_abs d / n ≡ nat_abs q
size_is d n q t = div-eq_of_lt-le n t.goes (subst (λ (k : ℕ). nat_abs d < k) (next (nat_abs q) n) t.most)
  where
    next : (k m : ℕ) → k * m + m ≡ (k + 1) * m
    next k m = sym (suc-mul k m) ∙ ap (λ (j : ℕ). j * m) (omega arith)

-- A number by its size and its side of zero.
pub only_quotient : (d : ℤ) (n : ℕ) (q : ℤ) → TowardZero d n q → q ≡ quot_z d (pos n)
only_quotient (pos a) n (pos b) t = ap pos (sym (size_is (pos a) n (pos b) t))
only_quotient (pos a) n (negsuc b) t = absurd (t.above (le→leb 0 a (omega arith)))
only_quotient (negsuc a) n (pos b) t =
    let z : b ≡ 0 = omega (arith, leb→le b 0 (t.below tt)) in
    ap pos z ∙ ap (λ (k : ℕ). neg_ℤ (pos k)) (sym (size_is (negsuc a) n (pos b) t ∙ z))
only_quotient (negsuc a) n (negsuc b) t = ap (λ (k : ℕ). neg_ℤ (pos k)) (sym (size_is (negsuc a) n (negsuc b) t))
