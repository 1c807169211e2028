-- Strict total orders given as tests: of natural numbers, and by one key and then by another.
use mathlib.Core.Path.{◌≡◌, sym, ◌∙◌, subst, subst⁻¹}
use mathlib.Core.Logic.{◌⊎◌, inl, inr, ⊎_elim}
use mathlib.Core.Bool.{Bool, not}
use Prim.Native.Nat.{ℕ, ◌<◌}
use native.Mathlib.Omega.{arith}
use native.Mathlib.Decide.{dec_lt}
use lib.Dec.{T, T_not, not_T, ltb, ltb→lt, lt→ltb}
use Rattle.arrays.specs.Order.{StrictTotal}
use Rattle.arrays.specs.Test.{then_by}
use Rattle.arrays.proofs.Test.{then_by_cases, then_by-first, then_by-next}

-- Neither is less, so they are equal.
pub tied : {K : Type 0} (less : K → K → Bool) → StrictTotal (λ (a b : K). T (less a b)) → (a b : K) → T (not (less a b)) → T (not (less b a)) → a ≡ b
tied less o a b f g = ⊎_elim (λ h. absurd (T_not (less a b) f h)) (λ h. ⊎_elim (λ e. e) (λ k. absurd (T_not (less b a) g k)) h) (o.compare a b)

-- Equal, so neither is less.
pub not_less : {K : Type 0} (less : K → K → Bool) → StrictTotal (λ (a b : K). T (less a b)) → (a b : K) → a ≡ b → T (not (less a b))
not_less {K} less o a b e = not_T (less a b) (λ h. o.irrefl b (subst (λ (z : K). T (less z b)) e h))

-- What comes before c comes before everything that does not.
pub before-later : {A : Type 0} {before : A → A → Type 0} → StrictTotal before → (a b c : A) → before a c → ¬ before b c → before a b
before-later {before = before} o a b c h n =
    ⊎_elim (λ k. absurd (n k)) (λ r. ⊎_elim (λ e. subst⁻¹ (before a) e h) (λ k. o.trans a c b h k) r) (o.compare b c)

module _ {A K : Type 0} (key : A → K) (less : K → K → Bool) (o : StrictTotal (λ (a b : K). T (less a b))) (next : A → A → Bool)
    (next-irrefl : (a : A) → ¬ T (next a a)) (next-trans : (a b c : A) → T (next a b) → T (next b c) → T (next a c))
    (next-compare : (a b : A) → key a ≡ key b → T (next a b) ⊎ ((a ≡ b) ⊎ T (next b a))) where
  both : A → A → Bool
  both a b = then_by (less (key a) (key b)) (less (key b) (key a)) (λ _. next a b)

  first_of : (a b : A) → T (less (key a) (key b)) → T (both a b)
  unfolding both
  first_of a b h = then_by-first (less (key a) (key b)) (less (key b) (key a)) (λ _. next a b) h

  next_of : (a b : A) → T (not (less (key a) (key b))) → T (not (less (key b) (key a))) → T (next a b) → T (both a b)
  unfolding both
  next_of a b f g h = then_by-next (less (key a) (key b)) (less (key b) (key a)) (λ _. next a b) f g h

  cases_of : (a b : A) → T (both a b) → T (less (key a) (key b)) ⊎ ((key a ≡ key b) × T (next a b))
  unfolding both
  cases_of a b t =
      ⊎_elim (λ h. inl h) (λ c. inr (tied less o (key a) (key b) c.0 c.1, c.2))
      (then_by_cases (less (key a) (key b)) (less (key b) (key a)) (λ _. next a b) t)

  level : (a b : A) → key a ≡ key b → T (next a b) → T (both a b)
  level a b e h =
      next_of a b (not_less less o (key a) (key b) e) (not_less less o (key b) (key a) (sym e)) h

  both-irrefl : (a : A) → ¬ T (both a a)
  both-irrefl a t = ⊎_elim (o.irrefl (key a)) (λ c. next-irrefl a c.1) (cases_of a a t)

  both-trans : (a b c : A) → T (both a b) → T (both b c) → T (both a c)
  both-trans a b c s t =
      ⊎_elim
      (λ h. ⊎_elim (λ k. first_of a c (o.trans (key a) (key b) (key c) h k))
      (λ k. first_of a c (subst (λ (z : K). T (less (key a) z)) k.0 h)) (cases_of b c t))
      (λ h. ⊎_elim (λ k. first_of a c (subst⁻¹ (λ (z : K). T (less z (key c))) h.0 k))
      (λ k. level a c (h.0 ∙ k.0) (next-trans a b c h.1 k.1)) (cases_of b c t))
      (cases_of a b s)

  both-compare : (a b : A) → T (both a b) ⊎ ((a ≡ b) ⊎ T (both b a))
  both-compare a b =
      ⊎_elim (λ h. inl (first_of a b h))
      (λ r. ⊎_elim
      (λ e. ⊎_elim (λ n. inl (level a b e n))
      (λ m. ⊎_elim (λ p. inr (inl p)) (λ n. inr (inr (level b a (sym e) n))) m) (next-compare a b e))
      (λ h. inr (inr (first_of b a h))) r)
      (o.compare (key a) (key b))

  pub by_keys : StrictTotal (λ (a b : A). T (then_by (less (key a) (key b)) (less (key b) (key a)) (λ _. next a b)))
  unfolding both
  by_keys = record { irrefl = both-irrefl; trans = both-trans; compare = both-compare }

pub nat_order : StrictTotal (λ (m n : ℕ). T (ltb m n))
nat_order =
    record {
      irrefl = λ m t. omega (arith, ltb→lt m m t);
      trans = λ l m n s t. lt→ltb l n (omega (arith, ltb→lt l m s, ltb→lt m n t));
      compare = compare;
    }
  where
    go : (m n : ℕ) → Dec (m < n) → Dec (n < m) → T (ltb m n) ⊎ ((m ≡ n) ⊎ T (ltb n m))
    go m n (yes h) d = inl (lt→ltb m n h)
    go m n (no h) (yes k) = inr (inr (lt→ltb n m k))
    go m n (no h) (no k) = inr (inl (omega arith))

    compare : (m n : ℕ) → T (ltb m n) ⊎ ((m ≡ n) ⊎ T (ltb n m))
    compare m n = go m n (dec_lt m n) (dec_lt n m)
