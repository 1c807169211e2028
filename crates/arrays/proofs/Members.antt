-- Lists as sets: where a member stands, lists without repeats, and that a strictly sorted list is settled by its members.
use mathlib.Core.Path.{◌≡◌, refl, sym, ◌∙◌, ap, ap₂, subst}
use mathlib.Core.Logic.{◌↔◌, ◌⊎◌, inl, inr, ⊎_elim}
use mathlib.Core.List.Memᴰ.{head}
use mathlib.Core.List.Memᴰ.{tail}
use mathlib.Core.List.{List, [], ◌∷◌, ◌++◌, Memᴰ}
use mathlib.Core.List.Memᴰ
use mathlib.Core.List.Memᴰ.{cases_cons as cases}
use mathlib.Core.List.Memᴰ.{not-nil}
use Prim.Native.Nat.{◌≤◌}
use native.Mathlib.Omega.{arith}
use lib.ListN.{length}
use Rattle.arrays.specs.Order.{StrictTotal, Sorted}
use Rattle.arrays.specs.Set.{Each}

module _ {A : Type 0} where
  -- A list with the member a is cut at a.
  pub mem-split : {a : A} {l : List A} → Memᴰ a l → (s : List A) × (t : List A) × (l ≡ s ++ (a ∷ t))
  mem-split (head {xs = xs} p) = ([], xs, ap (λ b. b ∷ xs) (sym p))
  mem-split (tail {x = x} m) = let r = mem-split m in (x ∷ r.0, r.1, ap (λ k. x ∷ k) r.2)

  -- The members of a list with one more element in the middle.
  pub mem_more : (s : List A) (a : A) (t : List A) {b : A} → Memᴰ b (s ++ t) → Memᴰ b (s ++ (a ∷ t))
  mem_more s a t m = ⊎_elim (λ k. Memᴰ.append_left (a ∷ t) k) (λ k. Memᴰ.append_right s (tail k)) (Memᴰ.append_cases s m)

  pub mem_less : (s : List A) (a : A) (t : List A) {b : A} → ¬ (b ≡ a) → Memᴰ b (s ++ (a ∷ t)) → Memᴰ b (s ++ t)
  mem_less s a t n m =
      ⊎_elim (λ k. Memᴰ.append_left t k) (λ k. Memᴰ.append_right s (⊎_elim (λ p. absurd (n p)) (λ j. j) (cases k)))
      (Memᴰ.append_cases s m)

  -- An element may stand in front of either of two lists.
  pub mem_shift : (a b : A) (l m : List A) → (Memᴰ b (a ∷ l) ⊎ Memᴰ b m) ↔ (Memᴰ b l ⊎ Memᴰ b (a ∷ m))
  mem_shift a b l m = (
    ⊎_elim (λ k. ⊎_elim (λ p. inr (head p)) inl (cases k)) (λ k. inr (tail k)),
    ⊎_elim (λ k. inl (tail k)) (λ k. ⊎_elim (λ p. inl (head p)) inr (cases k)),
  )

  -- The first two elements may be exchanged, and so the second and the third.
  pub mem_swap : {a b c : A} {l : List A} → Memᴰ c (a ∷ b ∷ l) → Memᴰ c (b ∷ a ∷ l)
  mem_swap m = ⊎_elim (λ p. tail (head p)) (λ k. ⊎_elim head (λ j. tail (tail j)) (cases k)) (cases m)

  pub mem_swap_next : {a b c d : A} {l : List A} → Memᴰ d (a ∷ b ∷ c ∷ l) → Memᴰ d (a ∷ c ∷ b ∷ l)
  mem_swap_next m = ⊎_elim head (λ k. tail (mem_swap k)) (cases m)

  -- A list with a member is not empty.
  pub member_length : {a : A} {l : List A} → Memᴰ a l → 1 ≤ length l
  member_length (head p) = omega arith
  member_length (tail m) = omega (arith, member_length m)

  -- What holds of each element holds of the members.
  pub mem-each : (Q : A → Type 0) (l : List A) → Each Q l → {a : A} → Memᴰ a l → Q a
  mem-each Q [] h m = absurd (not-nil m)
  mem-each Q (b ∷ l) h m = ⊎_elim (λ p. subst Q (sym p) h.0) (mem-each Q l h.1) (cases m)

  -- A list without repeats.
  abbrev pub Distinct : List A → Type 0
  Distinct = Sorted (λ a b. ¬ (a ≡ b))

module _ {A : Type 0} {before : A → A → Type 0} (order : StrictTotal before) where
  pub sorted_distinct : (l : List A) → Sorted before l → Distinct l
  sorted_distinct [] s = tt
  sorted_distinct (a ∷ l) s = (λ b m p. order.irrefl b (rw p at (s.0 b m)), sorted_distinct l s.1)

  -- Two strictly sorted lists with the same members are equal.
  pub sorted_ext :
      (l m : List A) → Sorted before l → Sorted before m → ((a : A) → Memᴰ a l → Memᴰ a m) → ((a : A) → Memᴰ a m → Memᴰ a l)
      → l ≡ m
  sorted_ext [] [] s t f g = refl
  sorted_ext [] (b ∷ m) s t f g = absurd (not-nil (g b (head refl)))
  sorted_ext (a ∷ l) [] s t f g = absurd (not-nil (f a (head refl)))
  sorted_ext (a ∷ l) (b ∷ m) s t f g =
      ap₂ (λ x k. x ∷ k) first (sorted_ext l m s.1 t.1
      (λ c k. rest l a b m s (sym first) c k (f c (tail k)))
      (λ c k. rest m b a l t first c k (g c (tail k))))
    where
      -- A member behind the first is no first.
      rest :
          (l : List A) (a b : A) (m : List A) → Sorted before (a ∷ l) → b ≡ a → (c : A) → Memᴰ c l → Memᴰ c (b ∷ m) → Memᴰ c m
      rest l a b m s p c k j = ⊎_elim (λ q. absurd (order.irrefl c (subst (λ x. before x c) (sym (q ∙ p)) (s.0 c k)))) (λ i. i) (cases j)

      first : a ≡ b
      first =
          ⊎_elim (λ p. p)
          (λ k. ⊎_elim sym (λ j. absurd (order.irrefl a (order.trans a b a (s.0 b j) (t.0 a k))))
          (cases (g b (head refl))))
          (cases (f a (head refl)))
