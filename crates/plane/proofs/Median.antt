-- The median: for a list of whole numbers and any x, some member of the list is no farther from them all together than x.
-- Of the members take the nearest below x and the nearest above: the sum of distances is linear between the two, so that it does
-- not rise towards one of them.
use mathlib.Core.Path.{◌≡◌, refl, sym, subst}
use mathlib.Core.Logic.{◌⊎◌, inl, inr, ⊎_elim}
use mathlib.Core.List.Memᴰ
use mathlib.Core.List.{List, [], ◌∷◌, Memᴰ}
use Prim.Native.Nat.{ℕ, zero, suc, ◌+◌, ◌*◌, ◌≤◌}
use native.Mathlib.Nat.{mul-le-mul_left, le_refl}
use native.Mathlib.Omega.{arith}
use native.Mathlib.Decide.{dec_le}
use lib.IntN.{ℤ}
use Rattle.plane.specs.Point.{gap}
use Rattle.plane.proofs.Whole.{AtMost, at_most?}
use Rattle.plane.proofs.Metric.{gap-zero, gap_up, gap_down}

-- The sum of the distances from x.
unfoldable pub sum_gap : ℤ → List ℤ → ℕ
sum_gap x [] = 0
sum_gap x (y ∷ l) = gap x y + sum_gap x l

-- On one side of x, by a total order `le`: no member of the list, or the member nearest to x.
module _ (le : ℤ → ℤ → Type 0) (le? : (a b : ℤ) → Dec (le a b)) (total : (a b : ℤ) → ¬ le a b → le b a)
    (self : (a : ℤ) → le a a) (trans : (a b c : ℤ) → le a b → le b c → le a c) (x : ℤ) where
  pub data Side (l : List ℤ) : Type 0 where
    none_there : ((y : ℤ) → Memᴰ y l → ¬ le y x) → Side l
    nearest : (m : ℤ) → Memᴰ m l → le m x → ((y : ℤ) → Memᴰ y l → le y x → le y m) → Side l

  side : (l : List ℤ) → Side l
  side [] = none_there (λ y i. absurd (Memᴰ.not-nil i))
  side (z ∷ l) = add (side l) (le? z x)
    where
      take : (m : ℤ) → Memᴰ m (z ∷ l) → le m x → le z m ⊎ ¬ le z x → ((y : ℤ) → Memᴰ y l → le y x → le y m) → Side (z ∷ l)
      take m i h g f =
          nearest m i h
          (λ y j k. ⊎_elim
          (λ e. ⊎_elim (λ b. subst (λ (w : ℤ). le w m) (sym e) b) (λ n. absurd (n (subst (λ (w : ℤ). le w x) e k))) g)
          (λ t. f y t k) (Memᴰ.cases_cons j))

      pick : (m : ℤ) → Memᴰ m l → le m x → ((y : ℤ) → Memᴰ y l → le y x → le y m) → le z x → Dec (le z m) → Side (z ∷ l)
      pick m i h f g (yes k) = take m (Memᴰ.tail i) h (inl k) f
      pick m i h f g (no n) = take z (Memᴰ.head refl) g (inl (self z)) (λ y j k. trans y m z (f y j k) (total z m n))

      add : Side l → Dec (le z x) → Side (z ∷ l)
      add (none_there f) (yes h) = take z (Memᴰ.head refl) h (inl (self z)) (λ y j k. absurd (f y j k))
      add (none_there f) (no n) =
          none_there (λ y j k. ⊎_elim (λ e. n (subst (λ (w : ℤ). le w x) e k)) (λ t. f y t k) (Memᴰ.cases_cons j))
      add (nearest m i h f) (yes g) = pick m i h f g (le? z m)
      add (nearest m i h f) (no n) = take m (Memᴰ.tail i) h (inr n) f

-- Moving from x to m, if that takes no member farther away.
toward : (x m : ℤ) (l : List ℤ) → ((y : ℤ) → Memᴰ y l → gap m y ≤ gap x y) → sum_gap m l ≤ sum_gap x l
unfolding sum_gap
toward x m [] f = omega arith
toward x m (y ∷ l) f = omega (arith, f y (Memᴰ.head refl), toward x m l (λ z i. f z (Memᴰ.tail i)))

-- The sum of distances is linear between a and b where no member stands between: s = b − x and t = x − a.
linear : (a x b : ℤ) (s t : ℕ) (l : List ℤ)
    → ((y : ℤ) → Memᴰ y l → s * gap a y + t * gap b y ≡ (s + t) * gap x y)
    → s * sum_gap a l + t * sum_gap b l ≡ (s + t) * sum_gap x l
unfolding sum_gap
linear a x b s t [] f = omega arith
linear a x b s t (y ∷ l) f = omega (arith, f y (Memᴰ.head refl), linear a x b s t l (λ z i. f z (Memᴰ.tail i)))

mix : (s t d : ℕ) → s * d + t * (d + t + s) ≡ (s + t) * (d + t)
mix s t d = omega arith

mix' : (s t d : ℕ) → s * (d + s + t) + t * d ≡ (s + t) * (d + s)
mix' s t d = omega arith

-- One of two weighted terms is no greater than their mean.
one_below : (s t A B X : ℕ) → 1 ≤ t → s * A + t * B ≡ (s + t) * X → ¬ (A ≤ X) → B ≤ X
one_below s t A B X ht e n = go (dec_le B X)
  where
    go : Dec (B ≤ X) → B ≤ X
    go (yes h) = h
    go (no m) =
        let hA : X + 1 ≤ A = omega arith in
        let hB : X + 1 ≤ B = omega arith in
        absurd (omega (arith, mul-le-mul_left s hA, mul-le-mul_left t hB))

-- Between the nearest member a below x and the nearest member b above it.
between : (a x b : ℤ) (l : List ℤ) → AtMost a x → AtMost x b → ((y : ℤ) → Memᴰ y l → AtMost y a ⊎ AtMost b y)
    → (sum_gap a l ≤ sum_gap x l) ⊎ (sum_gap b l ≤ sum_gap x l)
between a x b l h k f = go (dec_le (sum_gap a l) (sum_gap x l)) (gap-zero a x)
  where
    at : (y : ℤ) → AtMost y a ⊎ AtMost b y → gap x b * gap a y + gap a x * gap b y ≡ (gap x b + gap a x) * gap x y
    at y (inl u) =
        let ex : gap x y ≡ gap a y + gap a x = omega (arith, gap_down y a u, gap_up a x h, gap_down y x (omega arith)) in
        let eb : gap b y ≡ gap a y + gap a x + gap x b = omega (arith, gap_down y a u, gap_up a x h, gap_up x b k, gap_down y b (omega arith)) in
        rw (ex, eb) (mix (gap x b) (gap a x) (gap a y))
    at y (inr u) =
        let ex : gap x y ≡ gap b y + gap x b = omega (arith, gap_up b y u, gap_up x b k, gap_up x y (omega arith)) in
        let ea : gap a y ≡ gap b y + gap x b + gap a x = omega (arith, gap_up b y u, gap_up a x h, gap_up x b k, gap_up a y (omega arith)) in
        rw (ex, ea) (mix' (gap x b) (gap a x) (gap b y))

    sums : gap x b * sum_gap a l + gap a x * sum_gap b l ≡ (gap x b + gap a x) * sum_gap x l
    sums = linear a x b (gap x b) (gap a x) l (λ y i. at y (f y i))

    apart : (t : ℕ) → gap a x ≡ t → (gap a x ≡ 0 → a ≡ x) → ¬ (sum_gap a l ≤ sum_gap x l) → 1 ≤ gap a x
    apart zero e same n = absurd (n (subst (λ (w : ℤ). sum_gap a l ≤ sum_gap w l) (same e) (le_refl (sum_gap a l))))
    apart (suc t) e same n = omega arith

    go : Dec (sum_gap a l ≤ sum_gap x l) → (gap a x ≡ 0 → a ≡ x) → (sum_gap a l ≤ sum_gap x l) ⊎ (sum_gap b l ≤ sum_gap x l)
    go (yes g) same = inl g
    go (no n) same =
        inr (one_below (gap x b) (gap a x) (sum_gap a l) (sum_gap b l) (sum_gap x l) (apart (gap a x) refl same n) sums n)

pub median : (x y : ℤ) (l : List ℤ) → Memᴰ y l → (m : ℤ) × Memᴰ m l × (sum_gap m l ≤ sum_gap x l)
median x y l i = go below above
  where
    Below : Type 0
    Below = Side AtMost at_most? (λ a b n. omega arith) (λ a. omega arith) (λ a b c h k. omega arith) x l

    Above : Type 0
    Above = Side (λ a b. AtMost b a) (λ a b. at_most? b a) (λ a b n. omega arith) (λ a. omega arith) (λ a b c h k. omega arith) x l

    below : Below
    below = side AtMost at_most? (λ a b n. omega arith) (λ a. omega arith) (λ a b c h k. omega arith) x l

    above : Above
    above = side (λ a b. AtMost b a) (λ a b. at_most? b a) (λ a b n. omega arith) (λ a. omega arith) (λ a b c h k. omega arith) x l

    go : Below → Above → (m : ℤ) × Memᴰ m l × (sum_gap m l ≤ sum_gap x l)
    go (none_there f) (none_there g) = absurd (g y i (total-order y (f y i)))
      where
        total-order : (z : ℤ) → ¬ AtMost z x → AtMost x z
        total-order z n = omega arith
    go (none_there f) (nearest b j h g) =
        (b, j, toward x b l (λ z t. let n = f z t in let k : AtMost b z = g z t (omega arith) in omega (arith, gap_up b z k, gap_up x z (omega arith))))
    go (nearest a j h f) (none_there g) =
        (a, j, toward x a l (λ z t. let n = g z t in let k : AtMost z a = f z t (omega arith) in omega (arith, gap_down z a k, gap_down z x (omega arith))))
    go (nearest a j h f) (nearest b j' k g) =
        ⊎_elim (λ r. (a, j, r)) (λ r. (b, j', r))
        (between a x b l h k (λ z t. where_is z (f z t) (g z t) (at_most? z x)))
      where
        where_is : (z : ℤ) → (AtMost z x → AtMost z a) → (AtMost x z → AtMost b z) → Dec (AtMost z x) → AtMost z a ⊎ AtMost b z
        where_is z u v (yes w) = inl (u w)
        where_is z u v (no n) = inr (v (omega arith))
