-- Sums over lists without repeats depend on the members alone: a member can be taken out first.
use mathlib.Core.Path.{◌≡◌, refl, sym, ◌∙◌, ap, ap₂, subst}
use mathlib.Core.Logic.{◌↔◌, ◌⊎◌, inl, inr, ⊎_elim}
use mathlib.Core.List.Memᴰ.{cases_cons as cases}
use mathlib.Core.List.Memᴰ.{head}
use mathlib.Core.List.Memᴰ.{tail}
use mathlib.Core.List.{List, [], ◌∷◌, ◌++◌, Memᴰ}
use mathlib.Core.List.Memᴰ.{not-nil}
use Prim.Native.Nat.{ℕ, ◌+◌, ◌*◌, ◌≤◌}
use native.Mathlib.Nat.{mul-zero, mul-suc}
use native.Mathlib.Omega.{arith}
use lib.ListN.{length}
use Rattle.spanning.specs.Graph.{total}
use Rattle.arrays.proofs.Members.{Distinct, mem-split, mem_less}

-- The list l without its member a.
pub record Without {A : Type 0} (a : A) (l : List A) : Type 0 where
  pub list : List A
  pub distinct : Distinct list
  pub from : (b : A) → Memᴰ b list → Memᴰ b l × ¬ (b ≡ a)
  pub onto : (b : A) → Memᴰ b l → (b ≡ a) ⊎ Memᴰ b list
  pub sum : (f : A → ℕ) → total f l ≡ f a + total f list

module _ {A : Type 0} where
  pub total_same_terms : (f g : A → ℕ) (l : List A) → ((a : A) → Memᴰ a l → f a ≡ g a) → total f l ≡ total g l
  unfolding total
  total_same_terms f g [] h = refl
  total_same_terms f g (a ∷ l) h = ap₂ ◌+◌ (h a (head refl)) (total_same_terms f g l (λ b m. h b (tail m)))

  pub total_smaller_terms : (f g : A → ℕ) (l : List A) → ((a : A) → Memᴰ a l → f a ≤ g a) → total f l ≤ total g l
  unfolding total
  total_smaller_terms f g [] h = omega arith
  total_smaller_terms f g (a ∷ l) h = omega (arith, h a (head refl), total_smaller_terms f g l (λ b m. h b (tail m)))

  pub total-sum : (f g : A → ℕ) (l : List A) → total (λ a. f a + g a) l ≡ total f l + total g l
  unfolding total
  total-sum f g [] = refl
  total-sum f g (a ∷ l) = omega (arith, total-sum f g l)

  pub total-least : (f : A → ℕ) (n : ℕ) (l : List A) → ((a : A) → Memᴰ a l → n ≤ f a) → n * length l ≤ total f l
  unfolding total
  total-least f n [] h = omega (arith, mul-zero n)
  total-least f n (a ∷ l) h =
      omega (arith, mul-suc n (length l), h a (head refl), total-least f n l (λ b m. h b (tail m)))

  pub total-most : (f : A → ℕ) (n : ℕ) (l : List A) → ((a : A) → Memᴰ a l → f a ≤ n) → total f l ≤ n * length l
  unfolding total
  total-most f n [] h = omega (arith, mul-zero n)
  total-most f n (a ∷ l) h =
      omega (arith, mul-suc n (length l), h a (head refl), total-most f n l (λ b m. h b (tail m)))

  pub total_const : (n : ℕ) (l : List A) → total (λ _. n) l ≡ n * length l
  unfolding total
  total_const n [] = sym (mul-zero n)
  total_const n (a ∷ l) = omega (arith, mul-suc n (length l), total_const n l)

  pub take_out : (l : List A) → Distinct l → (a : A) → Memᴰ a l → Without a l
  unfolding total
  take_out [] d a h = elim h [ ]
  take_out (x ∷ l) d a (head p) =
      record {
        list = l;
        distinct = d.1;
        from = λ b m. (tail m, λ q. d.0 b m (sym p ∙ sym q));
        onto = λ b m. ⊎_elim (λ q. inl (q ∙ sym p)) inr (cases m);
        sum = λ f. ap (λ y. f y + total f l) (sym p);
      }
  take_out (x ∷ l) d a (tail m) =
      let r = take_out l d.1 a m in
      record {
        list = x ∷ r.list;
        distinct = (λ b k. d.0 b (r.from b k).0, r.distinct);
        from = λ b k.
            ⊎_elim (λ q. (head q, λ p. d.0 a m (sym q ∙ p))) (λ j. (tail (r.from b j).0, (r.from b j).1)) (cases k);
        onto = λ b k.
            ⊎_elim (λ q. inr (head q)) (λ j. ⊎_elim inl (λ i. inr (tail i)) (r.onto b j)) (cases k);
        sum = λ f. omega (arith, r.sum f);
      }

  pub total_same_members :
      (f : A → ℕ) (l m : List A) → Distinct l → Distinct m → ((a : A) → Memᴰ a l ↔ Memᴰ a m) → total f l ≡ total f m
  unfolding total
  total_same_members f [] [] d e h = refl
  total_same_members f [] (b ∷ m) d e h = absurd (not-nil ((h b).1 (head refl)))
  total_same_members f (a ∷ l) m d e h =
      let r = take_out m e a ((h a).0 (head refl)) in
      ap (λ n. f a + n)
      (total_same_members f l r.list d.1 r.distinct
      (λ b. (
        λ k. ⊎_elim (λ p. absurd (d.0 b k (sym p))) (λ j. j) (r.onto b ((h b).0 (tail k))),
        λ k. ⊎_elim (λ p. absurd ((r.from b k).1 p)) (λ j. j) (cases ((h b).1 (r.from b k).0)),
      )))
      ∙ sym (r.sum f)

  pub same_members-length : (l m : List A) → Distinct l → Distinct m → ((a : A) → Memᴰ a l ↔ Memᴰ a m) → length l ≡ length m
  same_members-length l m d e h = omega (arith, total_same_members (λ _. 1) l m d e h, total_const 1 l, total_const 1 m)

  -- The sum over different members of a list is no greater than that over the list.
  total_middle : (f : A → ℕ) (s : List A) (a : A) (t : List A) → total f (s ++ (a ∷ t)) ≡ f a + total f (s ++ t)
  unfolding total
  total_middle f [] a t = refl
  total_middle f (b ∷ s) a t = omega (arith, total_middle f s a t)

  pub total_some_members : (f : A → ℕ) (l m : List A) → Distinct l → ((a : A) → Memᴰ a l → Memᴰ a m) → total f l ≤ total f m
  unfolding total
  total_some_members f [] m d h = omega arith
  total_some_members f (a ∷ l) m d h =
      let c = mem-split (h a (head refl)) in
      omega (
        arith,
        ap (total f) c.2,
        total_middle f c.0 a c.1,
        total_some_members f l (c.0 ++ c.1) d.1
            (λ b k. mem_less c.0 a c.1 (λ p. d.0 b k (sym p)) (subst (λ n. Memᴰ b n) c.2 (h b (tail k)))),
      )

  pub some_members-length : (l m : List A) → Distinct l → ((a : A) → Memᴰ a l → Memᴰ a m) → length l ≤ length m
  some_members-length l m d h = omega (arith, total_some_members (λ _. 1) l m d h, total_const 1 l, total_const 1 m)

  -- The sum over a union of two lists that share no member.
  pub total-union :
      (f : A → ℕ) (l m u : List A) → Distinct l → Distinct m → Distinct u → ((a : A) → Memᴰ a l → ¬ Memᴰ a m)
      → ((a : A) → Memᴰ a u ↔ (Memᴰ a l ⊎ Memᴰ a m)) → total f u ≡ total f l + total f m
  unfolding total
  total-union f [] m u d e g apart h =
      omega (arith, total_same_members f u m g e (λ a. (λ k. ⊎_elim (λ j. absurd (not-nil j)) (λ j. j) ((h a).0 k), λ k. (h a).1 (inr k))))
  total-union f (a ∷ l) m u d e g apart h =
      let r = take_out u g a ((h a).1 (inl (head refl))) in
      omega (
        arith,
        r.sum f,
        total-union f l m r.list d.1 e r.distinct (λ b k. apart b (tail k))
            (λ b. (
              λ k. ⊎_elim (λ j. ⊎_elim (λ p. absurd ((r.from b k).1 p)) inl (cases j)) inr ((h b).0 (r.from b k).0),
              ⊎_elim (λ j. ⊎_elim (λ p. absurd (d.0 b j (sym p))) (λ i. i) (r.onto b ((h b).1 (inl (tail j)))))
                  (λ j. ⊎_elim (λ p. absurd (apart b (head p) j)) (λ i. i) (r.onto b ((h b).1 (inr j)))),
            )),
      )
