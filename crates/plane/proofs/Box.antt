-- The half perimeter is that of the box around the points. The least of some numbers is the only one among them that is at most each of them, and
-- the greatest likewise, so that neither depends on the order of the numbers.
use mathlib.Core.Path.{◌≡◌, refl, sym, ap₂, subst⁻¹}
use mathlib.Core.Logic.{⊎_elim}
use mathlib.Core.Bool.{Bool}
use mathlib.Core.List.Memᴰ.{cases_cons as cases}
use mathlib.Core.List.Memᴰ.{head}
use mathlib.Core.List.Memᴰ.{tail}
use mathlib.Core.List.{List, [], ◌∷◌, map, Memᴰ}
use mathlib.Core.List.Memᴰ.{not-nil}
use native.Mathlib.Omega.{arith}
use lib.Dec.{T, T_not}
use lib.IntN.{ℤ}
use lib.Signed.{le_z}
use Rattle.arrays.proofs.Test.{by_test, false_of}
use Rattle.plane.specs.Point.{Point, point, gap, dist}
use Rattle.plane.specs.Box.{extreme, least, greatest, spread, half_perimeter, Reaches, BoxAround}
use Rattle.plane.proofs.Whole.{whole_ext, atmost_value, value_atmost}
use Rattle.plane.proofs.Signed.{most_no}

-- One of two whole numbers is at most the other.
atmost_other : (a b : ℤ) → ¬ T (le_z a b) → T (le_z b a)
atmost_other a b n = value_atmost b a (omega (arith, most_no a b (false_of (le_z a b) n)))

atmost_trans : (a b c : ℤ) → T (le_z a b) → T (le_z b c) → T (le_z a c)
atmost_trans a b c h k = value_atmost a c (omega (arith, atmost_value a b h, atmost_value b c k))

atmost_same : (a b : ℤ) → T (le_z a b) → T (le_z b a) → a ≡ b
atmost_same a b h k = whole_ext a b (omega (arith, atmost_value a b h, atmost_value b a k))

-- By a total order `le`: the extreme of some numbers is at most each of them, and among them.
module _ (le : ℤ → ℤ → Bool) (self : (a : ℤ) → T (le a a)) (other : (a b : ℤ) → ¬ T (le a b) → T (le b a))
    (trans : (a b c : ℤ) → T (le a b) → T (le b c) → T (le a c)) where
  Extreme : ℤ → List ℤ → ℤ → Type 0
  Extreme a l m = ((z : ℤ) → Memᴰ z (a ∷ l) → T (le m z)) × Memᴰ m (a ∷ l)

  extreme_is : (a : ℤ) (l : List ℤ) → Extreme a l (extreme le a l)
  unfolding extreme Extreme
  extreme_is a [] = (λ z i. ⊎_elim (λ e. subst⁻¹ (λ (w : ℤ). T (le a w)) e (self a)) (λ j. absurd (not-nil j)) (cases i), head refl)
  extreme_is a (b ∷ l) =
      let m = extreme le b l in
      let r = extreme_is b l in
      by_test (Extreme a (b ∷ l)) (le a m) _ _
      (λ t. (λ z j. ⊎_elim (λ e. subst⁻¹ (λ (w : ℤ). T (le a w)) e (self a)) (λ k. trans a m z t (r.0 z k)) (cases j), head refl))
      (λ n. (λ z j. ⊎_elim (λ e. subst⁻¹ (λ (w : ℤ). T (le m w)) e (other a m (T_not (le a m) n))) (r.0 z) (cases j), tail r.1))

-- A list that is not empty reaches from its least number to its greatest.
pub reaches_ends : (a : ℤ) (l : List ℤ) → Reaches (a ∷ l) (least a l) (greatest a l)
unfolding Extreme
reaches_ends a l = record { lowest = low.1; highest = high.1; between = λ z i. (low.0 z i, high.0 z i) }
  where
    self : (b : ℤ) → T (le_z b b)
    self b = value_atmost b b (omega arith)

    low : Extreme le_z self atmost_other atmost_trans a l (least a l)
    low = extreme_is le_z self atmost_other atmost_trans a l

    high : Extreme (λ b c. le_z c b) self (λ b c. atmost_other c b) (λ b c d h k. atmost_trans d c b k h) a l (greatest a l)
    high = extreme_is (λ b c. le_z c b) self (λ b c. atmost_other c b) (λ b c d h k. atmost_trans d c b k h) a l

-- A list spreads as far as any two numbers from which to which it reaches: they are its least and its greatest.
pub spread_reaches : (l : List ℤ) (low high : ℤ) → Reaches l low high → spread l ≡ gap low high
unfolding spread
spread_reaches [] low high r = absurd (not-nil r.lowest)
spread_reaches (a ∷ l) low high r =
    let e = reaches_ends a l in
    ap₂ gap (atmost_same (least a l) low (e.between low r.lowest).0 (r.between (least a l) e.lowest).0)
    (atmost_same (greatest a l) high (r.between (greatest a l) e.highest).1 (e.between high r.highest).1)

-- The same numbers, in another order and with other repeats, spread as far.
pub spread-members : (l m : List ℤ) → ((z : ℤ) → Memᴰ z l → Memᴰ z m) → ((z : ℤ) → Memᴰ z m → Memᴰ z l) → spread l ≡ spread m
unfolding spread
spread-members [] [] f g = refl
spread-members [] (b ∷ m) f g = absurd (not-nil (g b (head refl)))
spread-members (a ∷ l) m f g =
    let r = reaches_ends a l in
    sym (spread_reaches m (least a l) (greatest a l)
    (record { lowest = f (least a l) r.lowest; highest = f (greatest a l) r.highest; between = λ z i. r.between z (g z i) }))

-- The half perimeter is that of the box, and there is a box around one point or more.
pub box_perimeter : (ps : List Point) (low high : Point) → BoxAround ps low high → half_perimeter ps ≡ dist low high
unfolding half_perimeter dist
box_perimeter ps low high b =
    omega (
      arith,
      spread_reaches (map (λ (p : Point). p.x) ps) low.x high.x b.width,
      spread_reaches (map (λ (p : Point). p.y) ps) low.y high.y b.height,
    )

pub box_around : (p : Point) (ps : List Point) → (low : Point) × (high : Point) × BoxAround (p ∷ ps) low high
box_around p ps =
    let xs = map (λ (q : Point). q.x) ps in
    let ys = map (λ (q : Point). q.y) ps in (
      point (least p.x xs) (least p.y ys),
      point (greatest p.x xs) (greatest p.y ys),
      record { width = reaches_ends p.x xs; height = reaches_ends p.y ys },
    )
