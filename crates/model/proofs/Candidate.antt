-- The candidates of a round are the crossings of held points' lines at places not held, lower first: columns with rising x,
-- each with rising y.
use mathlib.Core.Path.{◌≡◌, refl, ap, ◌∙◌, subst, subst⁻¹}
use mathlib.Core.Logic.{⊎_elim, ◌↔◌}
use mathlib.Core.Bool.{not}
use mathlib.Core.List.Memᴰ.{cases_cons as cases}
use mathlib.Core.List.Memᴰ.{head}
use mathlib.Core.List.Memᴰ.{tail}
use mathlib.Core.List.{List, [], ◌∷◌, map, Memᴰ}
use mathlib.Core.List.Memᴰ
use mathlib.Core.List.Memᴰ.{not-nil}
use Prim.Native.Nat.{ℕ, ◌<◌}
use native.Mathlib.Omega.{arith}
use lib.Dec.{T, not_T}
use lib.IntN.{ℤ, sub_ℕ}
use lib.Signed.{lt_z}
use Rattle.arrays.specs.Order.{Sorted}
use Rattle.plane.specs.Point.{Point, lower, Lower}
use Rattle.plane.proofs.Whole.{sub_value, less_value, value_less}
use Rattle.plane.proofs.Order.{lower-order, whole-order}
use Rattle.arrays.proofs.Test.{then_by-first, then_by-next}
use Rattle.arrays.specs.Set.{has}
use Rattle.model.specs.Round.{xs_of, ys_of, column, crossings, not_held, candidates}
use Rattle.model.specs.Choice.{Candidate}
use Rattle.arrays.proofs.Set.{has_not, set_of_in, set_of-sorted, sorted-append, passing_in, passing-sorted}

pub map_in : {A B : Type 0} (f : A → B) (l : List A) (b : B) → Memᴰ b (map f l) ↔ ((a : A) × Memᴰ a l × (b ≡ f a))
map_in f [] b = (λ i. absurd (not-nil i), λ r. absurd (not-nil r.1))
map_in f (a ∷ l) b = (
  λ i. ⊎_elim (λ e. (a, head refl, e)) (λ j. let r = (map_in f l b).0 j in (r.0, tail r.1, r.2)) (cases i),
  λ r. ⊎_elim (λ e. head (r.2 ∙ ap f e)) (λ j. tail ((map_in f l b).1 (r.0, j, r.2))) (cases r.1),
)

point_of_lem : (c : Point) (x y : ℤ) → c.x ≡ x → c.y ≡ y → c ≡ record { x = x; y = y }
point_of_lem c x y ex ey = λ i. record { x = ex i; y = ey i }

crossings_in : (xs ys : List ℤ) (c : Point) → Memᴰ c (crossings xs ys) ↔ (Memᴰ c.x xs × Memᴰ c.y ys)
unfolding crossings column
crossings_in [] ys c = (λ i. absurd (not-nil i), λ r. absurd (not-nil r.0))
crossings_in (x ∷ xs) ys c = (
  λ i. ⊎_elim
      (λ j. let r = (map_in (λ (y : ℤ). record { x = x; y = y }) ys c).0 j in
      (head (λ k. (r.2 k).x), subst⁻¹ (λ (z : ℤ). Memᴰ z ys) (λ k. (r.2 k).y) r.1))
      (λ j. let r = (crossings_in xs ys c).0 j in (tail r.0, r.1)) (Memᴰ.append_cases (column x ys) i),
  λ r. ⊎_elim
      (λ e. Memᴰ.append_left (crossings xs ys) ((map_in (λ (y : ℤ). record { x = x; y = y }) ys c).1 (c.y, r.1, point_of_lem c x c.y e refl)))
      (λ j. Memᴰ.append_right (column x ys) ((crossings_in xs ys c).1 (j, r.1))) (cases r.0),
)

pub not_held_in : (ps l : List Point) (c : Point) → Memᴰ c (not_held ps l) ↔ (Memᴰ c l × ¬ Memᴰ c ps)
unfolding not_held
not_held_in ps l c =
    let there = passing_in (λ (p : Point). not (has lower p ps)) l c in
    let free = has_not lower lower-order c ps in
    (λ i. let r = there.0 i in (r.0, free.0 r.1), λ r. there.1 (r.0, free.1 r.1))

-- The candidates are what SPEC 4.4 calls so.
pub candidates_are : (ps : List Point) (c : Point) → Memᴰ c (candidates ps) ↔ Candidate ps c
unfolding candidates
candidates_are ps c = (
  λ i. let r = (not_held_in ps (crossings (xs_of ps) (ys_of ps)) c).0 i in
      let m = (crossings_in (xs_of ps) (ys_of ps) c).0 r.0 in
      record {
        on_x = (map_in (λ (p : Point). p.x) ps c.x).0 ((set_of_in lt_z whole-order (map (λ (p : Point). p.x) ps) c.x).0 m.0);
        on_y = (map_in (λ (p : Point). p.y) ps c.y).0 ((set_of_in lt_z whole-order (map (λ (p : Point). p.y) ps) c.y).0 m.1);
        free = r.1;
      },
  λ r. (not_held_in ps (crossings (xs_of ps) (ys_of ps)) c).1 (
    (crossings_in (xs_of ps) (ys_of ps) c).1 (
      (set_of_in lt_z whole-order (map (λ (p : Point). p.x) ps) c.x).1 ((map_in (λ (p : Point). p.x) ps c.x).1 r.on_x),
      (set_of_in lt_z whole-order (map (λ (p : Point). p.y) ps) c.y).1 ((map_in (λ (p : Point). p.y) ps c.y).1 r.on_y),
    ),
    r.free,
  ),
)

lower-by_x : (a b : Point) → T (lt_z a.x b.x) → Lower a b
unfolding lower
lower-by_x a b h = then_by-first (lt_z a.x b.x) (lt_z b.x a.x) (λ _. lt_z a.y b.y) h

lower-by_y : (x y z : ℤ) → T (lt_z y z) → Lower (record { x = x; y = y }) (record { x = x; y = z })
unfolding lower
lower-by_y x y z h = then_by-next (lt_z x x) (lt_z x x) (λ _. lt_z y z) same same h
  where
    same : T (not (lt_z x x))
    same = not_T (lt_z x x) (whole-order.irrefl x)

column-x : (x : ℤ) (ys : List ℤ) (c : Point) → Memᴰ c (column x ys) → c.x ≡ x
unfolding column
column-x x ys c i = ap (λ (p : Point). p.x) ((map_in (λ (y : ℤ). record { x = x; y = y }) ys c).0 i).2

-- Points of one column rise where their y rise; and every point of a column is lower than those of a column with a greater x.
pub column-rises : (x : ℤ) (ys : List ℤ) → Sorted (λ (a b : ℤ). T (lt_z a b)) ys → Sorted Lower (column x ys)
unfolding column
column-rises x [] s = tt
column-rises x (y ∷ ys) s = (
  λ c i. let r = (map_in (λ (z : ℤ). record { x = x; y = z }) ys c).0 i in
      subst⁻¹ (Lower (record { x = x; y = y })) r.2 (lower-by_y x y r.0 (s.0 r.0 r.1)),
  column-rises x ys s.1,
)

crossings-rise : (xs ys : List ℤ) → Sorted (λ (a b : ℤ). T (lt_z a b)) xs → Sorted (λ (a b : ℤ). T (lt_z a b)) ys → Sorted Lower (crossings xs ys)
unfolding crossings
crossings-rise [] ys s t = tt
crossings-rise (x ∷ xs) ys s t =
    sorted-append (column x ys) (crossings xs ys) (column-rises x ys t) (crossings-rise xs ys s.1 t)
    (λ a b i j. lower-by_x a b
    (subst⁻¹ (λ (z : ℤ). T (lt_z z b.x)) (column-x x ys a i) (s.0 b.x ((crossings_in xs ys b).0 j).0)))

pub not_held-rises : (ps l : List Point) → Sorted Lower l → Sorted Lower (not_held ps l)
unfolding not_held
not_held-rises ps l s = passing-sorted Lower (λ (p : Point). not (has lower p ps)) l s

-- The candidates come lower first, without repeats.
pub candidates-rise : (ps : List Point) → Sorted Lower (candidates ps)
unfolding candidates
candidates-rise ps =
    not_held-rises ps (crossings (xs_of ps) (ys_of ps))
    (crossings-rise (xs_of ps) (ys_of ps) (set_of-sorted lt_z whole-order (map (λ (p : Point). p.x) ps))
    (set_of-sorted lt_z whole-order (map (λ (p : Point). p.y) ps)))

-- A greater saving is a shorter tree.
pub save_less : (now m n : ℕ) → T (lt_z (sub_ℕ now m) (sub_ℕ now n)) → n < m
save_less now m n t = omega (arith, less_value (sub_ℕ now m) (sub_ℕ now n) t, sub_value now m, sub_value now n)

pub less_save : (now m n : ℕ) → n < m → T (lt_z (sub_ℕ now m) (sub_ℕ now n))
less_save now m n h = value_less (sub_ℕ now m) (sub_ℕ now n) (omega (arith, sub_value now m, sub_value now n))
