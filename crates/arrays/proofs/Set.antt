-- Sets as rising lists: what is in them after put, out, union and `set_of`, and that they stay rising. Over any strict total order.
use mathlib.Core.Path.{◌≡◌, refl, sym, ap, ◌∙◌, subst}
use mathlib.Core.Logic.{◌⊎◌, inl, inr, ⊎_elim, ◌↔◌}
use mathlib.Core.Bool.{Bool, true, false, not}
use mathlib.Core.List.Memᴰ.{head}
use mathlib.Core.List.Memᴰ.{tail}
use mathlib.Core.List.{List, [], ◌∷◌, ◌++◌, Memᴰ}
use mathlib.Core.List.Memᴰ.{cases_cons as cases}
use mathlib.Core.List.Memᴰ.{not-nil}
use Prim.Native.Nat.{suc, ◌+◌, ◌≤◌, ◌<◌}
use native.Mathlib.Nat.{zero-add, suc-add}
use native.Mathlib.Omega.{arith}
use lib.Dec.{T, T_not, not_T}
use lib.ListN.{length}
use Rattle.arrays.specs.Order.{StrictTotal, Sorted}
use Rattle.arrays.specs.Test.{if}
use Rattle.arrays.proofs.Members.{sorted_ext}
use Rattle.arrays.proofs.Order.{tied}
use Rattle.arrays.proofs.Test.{by_test, and_parts, and_both}
use Rattle.arrays.specs.Set.{tie, put, out, has, union, set_of, rising, all, passing}

pub all_in : {A : Type 0} (f : A → Bool) (l : List A) → T (all f l) ↔ ((a : A) → Memᴰ a l → T (f a))
unfolding all
all_in f [] = (λ t a i. absurd (not-nil i), λ g. tt)
all_in f (b ∷ l) = (
  λ t a i. ⊎_elim (λ e. subst (λ z. T (f z)) (sym e) (and_parts (f b) (all f l) t).0) (λ j. (all_in f l).0 (and_parts (f b) (all f l) t).1 a j) (cases i),
  λ g. and_both (f b) (all f l) (g b (head refl)) ((all_in f l).1 (λ a i. g a (tail i))),
)

pub passing_in : {A : Type 0} (f : A → Bool) (l : List A) (a : A) → Memᴰ a (passing f l) ↔ (Memᴰ a l × T (f a))
unfolding passing
passing_in f [] a = (λ i. absurd (not-nil i), λ p. absurd (not-nil p.0))
passing_in {A} f (b ∷ l) a =
    let rest = passing_in f l a in
    let behind : Memᴰ a (passing f l) → Memᴰ a (b ∷ l) × T (f a) = λ i. (tail (rest.0 i).0, (rest.0 i).1) in
    by_test (λ (m : List A). Memᴰ a m ↔ (Memᴰ a (b ∷ l) × T (f a))) (f b) _ _
    (λ t. (
      λ i. ⊎_elim (λ e. (head e, subst (λ z. T (f z)) (sym e) t)) behind (cases i),
      λ p. ⊎_elim head (λ j. tail (rest.1 (j, p.1))) (cases p.0),
    ))
    (λ n. (
      behind,
      λ p. ⊎_elim (λ e. absurd (T_not (f b) n (subst (λ z. T (f z)) e p.1))) (λ j. rest.1 (j, p.1)) (cases p.0),
    ))

pub passing-sorted : {A : Type 0} (before : A → A → Type 0) (f : A → Bool) (l : List A) → Sorted before l → Sorted before (passing f l)
unfolding passing
passing-sorted before f [] s = tt
passing-sorted before f (a ∷ l) s =
    by_test (Sorted before) (f a) _ _ (λ _. (λ b i. s.0 b ((passing_in f l b).0 i).0, passing-sorted before f l s.1))
    (λ _. passing-sorted before f l s.1)

pub passing-append : {A : Type 0} (f : A → Bool) (l m : List A) → passing f (l ++ m) ≡ passing f l ++ passing f m
unfolding passing
passing-append f [] m = refl
passing-append {A} f (a ∷ l) m = go (f a) (passing-append f l m)
  where
    go : (b : Bool) → passing f (l ++ m) ≡ passing f l ++ passing f m
        → if b (λ _. a ∷ passing f (l ++ m)) (λ _. passing f (l ++ m)) ≡ if b (λ _. a ∷ passing f l) (λ _. passing f l) ++ passing f m
    go true e = ap (λ (k : List A). a ∷ k) e
    go false e = e

-- How many pass: no more than there are, fewer where one does not, and all where each does.
pub passing-most : {A : Type 0} (f : A → Bool) (l : List A) → length (passing f l) ≤ length l
unfolding passing
passing-most f [] = omega arith
passing-most {A} f (a ∷ l) =
    by_test (λ (m : List A). length m ≤ length (a ∷ l)) (f a) _ _ (λ _. omega (arith, passing-most f l)) (λ _. omega (arith, passing-most f l))

pub passing_fewer : {A : Type 0} (f : A → Bool) (l : List A) (a : A) → Memᴰ a l → ¬ T (f a) → length (passing f l) < length l
unfolding passing
passing_fewer f [] a i n = absurd (not-nil i)
passing_fewer {A} f (b ∷ l) a i n =
    by_test (λ (m : List A). length m < length (b ∷ l)) (f b) _ _
    (λ t. ⊎_elim (λ e. absurd (n (subst (λ z. T (f z)) (sym e) t))) (λ j. omega (arith, passing_fewer f l a j n)) (cases i))
    (λ _. omega (arith, passing-most f l))

pub passing_all : {A : Type 0} (f : A → Bool) (l : List A) → ((a : A) → Memᴰ a l → T (f a)) → passing f l ≡ l
unfolding passing
passing_all f [] h = refl
passing_all {A} f (a ∷ l) h =
    by_test (λ (m : List A). m ≡ a ∷ l) (f a) _ _ (λ _. ap (λ m. a ∷ m) (passing_all f l (λ b i. h b (tail i)))) (λ n. absurd (T_not (f a) n (h a (head refl))))

-- Two sorted lists, each member of the one before each of the other, are sorted end to end.
pub sorted-append : {A : Type 0} {before : A → A → Type 0} (l m : List A) → Sorted before l → Sorted before m
    → ((a b : A) → Memᴰ a l → Memᴰ b m → before a b) → Sorted before (l ++ m)
sorted-append [] m s t h = t
sorted-append (a ∷ l) m s t h = (
  λ b i. ⊎_elim (s.0 b) (h a b (head refl)) (mathlib.Core.List.Memᴰ.append_cases l i),
  sorted-append l m s.1 t (λ b c i j. h b c (tail i) j),
)

module _ {A : Type 0} (less : A → A → Bool) (order : StrictTotal (λ (a b : A). T (less a b))) where
  abbrev Less : A → A → Type 0
  Less a b = T (less a b)

  pub tie-eq : (a b : A) → T (tie less a b) → a ≡ b
  tie-eq a b t = tied less order a b (and_parts (not (less a b)) (not (less b a)) t).0 (and_parts (not (less a b)) (not (less b a)) t).1

  pub tie_self : (a : A) → T (tie less a a)
  tie_self a = and_both (not (less a a)) (not (less a a)) (not_T (less a a) (order.irrefl a)) (not_T (less a a) (order.irrefl a))

  pub no_tie : (a b : A) → T (not (tie less a b)) → ¬ (a ≡ b)
  no_tie a b n e =
      T_not (tie less a b) n
      (and_both (not (less a b)) (not (less b a)) (not_T (less a b) (λ h. order.irrefl b (subst (λ z. Less z b) e h)))
      (not_T (less b a) (λ h. order.irrefl b (subst (λ z. Less b z) e h))))

  pub put_in : (a c : A) (l : List A) → Memᴰ c (put less a l) ↔ ((c ≡ a) ⊎ Memᴰ c l)
  unfolding put
  put_in a c [] = (λ i. cases i, λ s. ⊎_elim (λ e. head e) (λ i. tail i) s)
  put_in a c (b ∷ l) =
      by_test (λ (m : List A). Memᴰ c m ↔ ((c ≡ a) ⊎ Memᴰ c (b ∷ l))) (less a b) _ _
      (λ _. (λ i. cases i, λ s. ⊎_elim (λ e. head e) (λ i. tail i) s))
      (λ n. by_test (λ (m : List A). Memᴰ c m ↔ ((c ≡ a) ⊎ Memᴰ c (b ∷ l))) (less b a) _ _
      (λ _. (
        λ i. ⊎_elim (λ e. inr (head e)) (λ j. ⊎_elim (λ e. inl e) (λ k. inr (tail k)) ((put_in a c l).0 j)) (cases i),
        λ s. ⊎_elim (λ e. tail ((put_in a c l).1 (inl e))) (λ i. ⊎_elim (λ e. head e) (λ j. tail ((put_in a c l).1 (inr j))) (cases i)) s,
      ))
      (λ m. (λ i. inr i, λ s. ⊎_elim (λ e. head (subst (λ z. c ≡ z) (tied less order a b n m) e)) (λ i. i) s)))

  pub put-sorted : (a : A) (l : List A) → Sorted Less l → Sorted Less (put less a l)
  unfolding put
  put-sorted a [] s = (λ b i. absurd (not-nil i), tt)
  put-sorted a (b ∷ l) s =
      by_test (Sorted Less) (less a b) _ _
      (λ h. (λ c i. ⊎_elim (λ e. subst (λ z. Less a z) (sym e) h) (λ j. order.trans a b c h (s.0 c j)) (cases i), s))
      (λ n. by_test (Sorted Less) (less b a) _ _
      (λ h. (λ c i. ⊎_elim (λ e. subst (λ z. Less b z) (sym e) h) (s.0 c) ((put_in a c l).0 i), put-sorted a l s.1))
      (λ m. s))

  pub out_in : (a c : A) (l : List A) → Memᴰ c (out less a l) ↔ (Memᴰ c l × ¬ (c ≡ a))
  unfolding out
  out_in a c [] = (λ i. absurd (not-nil i), λ p. absurd (not-nil p.0))
  out_in a c (b ∷ l) =
      by_test (λ (m : List A). Memᴰ c m ↔ (Memᴰ c (b ∷ l) × ¬ (c ≡ a))) (tie less a b) _ _
      (λ t. (
        λ i. (tail ((out_in a c l).0 i).0, ((out_in a c l).0 i).1),
        λ p. ⊎_elim (λ e. absurd (p.1 (subst (λ z. c ≡ z) (sym (tie-eq a b t)) e))) (λ j. (out_in a c l).1 (j, p.1)) (cases p.0),
      ))
      (λ n. (
        λ i. ⊎_elim (λ e. (head e, λ f. no_tie a b n (subst (λ z. z ≡ b) f e))) (λ j. (tail ((out_in a c l).0 j).0, ((out_in a c l).0 j).1)) (cases i),
        λ p. ⊎_elim (λ e. head e) (λ j. tail ((out_in a c l).1 (j, p.1))) (cases p.0),
      ))

  pub out-sorted : (a : A) (l : List A) → Sorted Less l → Sorted Less (out less a l)
  unfolding out
  out-sorted a [] s = tt
  out-sorted a (b ∷ l) s =
      by_test (Sorted Less) (tie less a b) _ _ (λ t. out-sorted a l s.1)
      (λ n. (λ c i. s.0 c ((out_in a c l).0 i).0, out-sorted a l s.1))

  pub has_in : (a : A) (l : List A) → T (has less a l) ↔ Memᴰ a l
  unfolding has
  has_in a [] = (λ t. absurd t, λ i. absurd (not-nil i))
  has_in a (b ∷ l) =
      by_test (λ (r : Bool). T r ↔ Memᴰ a (b ∷ l)) (tie less a b) _ _ (λ t. (λ _. head (tie-eq a b t), λ _. tt))
      (λ n. (λ t. tail ((has_in a l).0 t), λ i. ⊎_elim (λ e. absurd (no_tie a b n e)) (λ j. (has_in a l).1 j) (cases i)))

  pub has_not : (a : A) (l : List A) → T (not (has less a l)) ↔ (Memᴰ a l → ⊥)
  has_not a l =
      (λ t i. T_not (has less a l) t ((has_in a l).1 i), λ f. not_T (has less a l) (λ t. f ((has_in a l).0 t)))

  pub union_in : (l m : List A) (c : A) → Memᴰ c (union less l m) ↔ (Memᴰ c l ⊎ Memᴰ c m)
  unfolding union
  union_in [] m c = (λ i. inr i, λ s. ⊎_elim (λ i. absurd (not-nil i)) (λ i. i) s)
  union_in (a ∷ l) m c = (
    λ i. ⊎_elim (λ e. inl (head e)) (λ j. ⊎_elim (λ k. inl (tail k)) (λ k. inr k) ((union_in l m c).0 j)) ((put_in a c (union less l m)).0 i),
    λ s. (put_in a c (union less l m)).1
        (⊎_elim (λ i. ⊎_elim (λ e. inl e) (λ j. inr ((union_in l m c).1 (inl j))) (cases i)) (λ i. inr ((union_in l m c).1 (inr i))) s),
  )

  pub union-sorted : (l m : List A) → Sorted Less m → Sorted Less (union less l m)
  unfolding union
  union-sorted [] m s = s
  union-sorted (a ∷ l) m s = put-sorted a (union less l m) (union-sorted l m s)

  pub set_of_in : (l : List A) (c : A) → Memᴰ c (set_of less l) ↔ Memᴰ c l
  set_of_in l c = (λ i. ⊎_elim (λ j. j) (λ j. absurd (not-nil j)) ((union_in l [] c).0 i), λ i. (union_in l [] c).1 (inl i))

  pub set_of-sorted : (l : List A) → Sorted Less (set_of less l)
  set_of-sorted l = union-sorted l [] tt

  -- A list that is rising already is its own set.
  pub set_of_same : (l : List A) → Sorted Less l → set_of less l ≡ l
  set_of_same l s = sorted_ext order (set_of less l) l (set_of-sorted l) s (λ a i. (set_of_in l a).0 i) (λ a i. (set_of_in l a).1 i)

  pub put_same : (a : A) (l : List A) → Sorted Less l → Memᴰ a l → put less a l ≡ l
  put_same a l s i =
      sorted_ext order (put less a l) l (put-sorted a l s) s
      (λ c j. ⊎_elim (λ e. subst (λ z. Memᴰ z l) (sym e) i) (λ k. k) ((put_in a c l).0 j)) (λ c j. (put_in a c l).1 (inr j))

  -- An element is there already, and then nothing is put, or it is not there.
  pub put_or_free : (a : A) (l : List A) → Sorted Less l → (put less a l ≡ l) ⊎ ¬ Memᴰ a l
  put_or_free a l s = go (has less a l) (has_in a l).0 (has_not a l).0
    where
      go : (b : Bool) → (T b → Memᴰ a l) → (T (not b) → Memᴰ a l → ⊥) → (put less a l ≡ l) ⊎ ¬ Memᴰ a l
      go true there free = inl (put_same a l s (there tt))
      go false there free = inr (free tt)

  pub rising-sorted : (l : List A) → T (rising less l) ↔ Sorted Less l
  unfolding rising
  rising-sorted [] = (λ t. tt, λ s. tt)
  rising-sorted (a ∷ []) = (λ t. (λ b i. absurd (not-nil i), tt), λ s. tt)
  rising-sorted (a ∷ b ∷ l) = (
    λ t. let h = (and_parts (less a b) (rising less (b ∷ l)) t).0 in
        let s = (rising-sorted (b ∷ l)).0 (and_parts (less a b) (rising less (b ∷ l)) t).1 in
        (λ c i. ⊎_elim (λ e. subst (λ z. Less a z) (sym e) h) (λ j. order.trans a b c h (s.0 c j)) (cases i), s),
    λ s. and_both (less a b) (rising less (b ∷ l)) (s.0 b (head refl)) ((rising-sorted (b ∷ l)).1 s.1),
  )

  -- Taking out a member makes a rising list shorter by one, and nothing else changes it.
  pub out_absent : (a : A) (l : List A) → ¬ Memᴰ a l → out less a l ≡ l
  unfolding out
  out_absent a [] n = refl
  out_absent a (b ∷ l) n =
      by_test (λ (m : List A). m ≡ b ∷ l) (tie less a b) _ _ (λ t. absurd (n (head (tie-eq a b t))))
      (λ t. ap (λ (m : List A). b ∷ m) (out_absent a l (λ i. n (tail i))))

  pub out-length : (a : A) (l : List A) → Sorted Less l → Memᴰ a l → suc (length (out less a l)) ≡ length l
  unfolding out
  out-length a [] s i = absurd (not-nil i)
  out-length a (b ∷ l) s i =
      by_test (λ (m : List A). suc (length m) ≡ suc (length l)) (tie less a b) _ _
      (λ t. ap (λ (m : List A). suc (length m)) (out_absent a l (λ j. order.irrefl b (subst (λ z. Less b z) (tie-eq a b t) (s.0 a j)))))
      (λ n. ap suc (out-length a l s.1 (⊎_elim (λ e. absurd (no_tie a b n e)) (λ j. j) (cases i))))

  pub put-length : (a : A) (l : List A) → ¬ Memᴰ a l → length (put less a l) ≡ suc (length l)
  unfolding put
  put-length a [] n = refl
  put-length a (b ∷ l) n =
      by_test (λ (m : List A). length m ≡ suc (suc (length l))) (less a b) _ _ (λ _. refl)
      (λ f. by_test (λ (m : List A). length m ≡ suc (suc (length l))) (less b a) _ _ (λ _. ap suc (put-length a l (λ i. n (tail i))))
      (λ g. absurd (n (head (tied less order a b f g)))))

  pub union-length : (l m : List A) → Sorted Less l → ((a : A) → Memᴰ a l → Memᴰ a m → ⊥) → length (union less l m) ≡ length l + length m
  unfolding union
  union-length [] m s far = sym (zero-add (length m))
  union-length (a ∷ l) m s far =
      put-length a (union less l m)
      (λ i. ⊎_elim (λ j. order.irrefl a (s.0 a j)) (λ j. far a (head refl) j) ((union_in l m a).0 i))
      ∙ ap suc (union-length l m s.1 (λ b i j. far b (tail i) j)) ∙ sym (suc-add (length l) (length m))
