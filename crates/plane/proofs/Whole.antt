-- Whole numbers by natural numbers: each is `plus z` less `minus z`, of which one is 0. A sum, a difference, an order and a
-- distance become linear facts on natural numbers, and the laws of the plane are then single steps of arithmetic.
use mathlib.Core.Path.{◌≡◌, refl, ap}
use mathlib.Core.Logic.{◌⊎◌, inl, inr, ⊎_elim}
use mathlib.Core.Bool.{Bool, true, false, not, cond}
use Prim.Native.Nat.{ℕ, zero, suc, ◌+◌, ◌-◌, ◌≤◌, ◌<◌}
use native.Mathlib.Omega.{arith}
use native.Mathlib.Decide.{dec_le}
use lib.Dec.{T, ltb, ltb→lt, nltb→le, leb→le, lt→ltb, le→leb}
use lib.IntN.{ℤ, pos, negsuc, neg_ℤ, nat_abs, sub_ℕ, ◌+ℤ◌, ◌-ℤ◌}
use lib.Signed.{lt_z, le_z}
use Rattle.plane.specs.Point.{gap}

abbrev pub plus : ℤ → ℕ
plus (pos n) = n
plus (negsuc n) = 0

abbrev pub minus : ℤ → ℕ
minus (pos n) = 0
minus (negsuc n) = suc n

pub one_sided : (z : ℤ) → (plus z ≡ 0) ⊎ (minus z ≡ 0)
one_sided (pos n) = inr refl
one_sided (negsuc n) = inl refl

pub abs_value : (z : ℤ) → nat_abs z ≡ plus z + minus z
abs_value (pos n) = omega arith
abs_value (negsuc n) = omega arith

pub neg_plus : (z : ℤ) → plus (neg_ℤ z) ≡ minus z
neg_plus (pos zero) = refl
neg_plus (pos (suc n)) = refl
neg_plus (negsuc n) = refl

pub neg_minus : (z : ℤ) → minus (neg_ℤ z) ≡ plus z
neg_minus (pos zero) = refl
neg_minus (pos (suc n)) = refl
neg_minus (negsuc n) = refl

pub sub_value : (a b : ℕ) → plus (sub_ℕ a b) + b ≡ a + minus (sub_ℕ a b)
sub_value a b = go (ltb a b) (ltb→lt a b) (nltb→le a b)
  where
    go : (t : Bool) → (T t → a < b) → (T (not t) → b ≤ a)
        → plus (cond t (negsuc (b - suc a)) (pos (a - b))) + b ≡ a + minus (cond t (negsuc (b - suc a)) (pos (a - b)))
    go true f g = let h : a < b = f tt in omega arith
    go false f g = let h : b ≤ a = g tt in omega arith

pub add_value : (a b : ℤ) → plus (a +ℤ b) + (minus a + minus b) ≡ plus a + plus b + minus (a +ℤ b)
add_value (pos a) (pos b) = omega arith
add_value (pos a) (negsuc b) = omega (arith, sub_value a (suc b))
add_value (negsuc a) (pos b) = omega (arith, sub_value b (suc a))
add_value (negsuc a) (negsuc b) = omega arith

pub difference_value : (a b : ℤ) → plus (a -ℤ b) + (minus a + plus b) ≡ plus a + minus b + minus (a -ℤ b)
difference_value a b = omega (arith, add_value a (neg_ℤ b), neg_plus b, neg_minus b)

pub whole_ext : (a b : ℤ) → plus a + minus b ≡ plus b + minus a → a ≡ b
whole_ext (pos a) (pos b) e = ap pos (omega arith)
whole_ext (pos a) (negsuc b) e = absurd (omega arith)
whole_ext (negsuc a) (pos b) e = absurd (omega arith)
whole_ext (negsuc a) (negsuc b) e = ap negsuc (omega arith)

-- The order: a is at most b.
abbrev pub AtMost : ℤ → ℤ → Type 0
AtMost a b = plus a + minus b ≤ plus b + minus a

pub at_most? : (a b : ℤ) → Dec (AtMost a b)
at_most? a b = dec_le (plus a + minus b) (plus b + minus a)

pub less_value : (a b : ℤ) → T (lt_z a b) → plus a + minus b < plus b + minus a
less_value (pos a) (pos b) t = omega (arith, ltb→lt a b t)
less_value (pos a) (negsuc b) t = absurd t
less_value (negsuc a) (pos b) t = omega arith
less_value (negsuc a) (negsuc b) t = omega (arith, ltb→lt b a t)

pub value_less : (a b : ℤ) → plus a + minus b < plus b + minus a → T (lt_z a b)
value_less (pos a) (pos b) h = lt→ltb a b (omega arith)
value_less (pos a) (negsuc b) h = absurd (omega arith)
value_less (negsuc a) (pos b) h = tt
value_less (negsuc a) (negsuc b) h = lt→ltb b a (omega arith)

pub atmost_value : (a b : ℤ) → T (le_z a b) → AtMost a b
atmost_value (pos a) (pos b) t = omega (arith, leb→le a b t)
atmost_value (pos a) (negsuc b) t = absurd t
atmost_value (negsuc a) (pos b) t = omega arith
atmost_value (negsuc a) (negsuc b) t = omega (arith, leb→le b a t)

pub value_atmost : (a b : ℤ) → AtMost a b → T (le_z a b)
value_atmost (pos a) (pos b) h = le→leb a b (omega arith)
value_atmost (pos a) (negsuc b) h = absurd (omega arith)
value_atmost (negsuc a) (pos b) h = tt
value_atmost (negsuc a) (negsuc b) h = le→leb b a (omega arith)

-- The distance along an axis: no less than the difference either way, and the least such number.
pub gap_ge : (a b : ℤ) → (plus a + minus b ≤ plus b + minus a + gap a b) × (plus b + minus a ≤ plus a + minus b + gap a b)
unfolding gap
gap_ge a b = (omega (arith, difference_value a b, abs_value (a -ℤ b)), omega (arith, difference_value a b, abs_value (a -ℤ b)))

pub gap-le : (a b : ℤ) (n : ℕ) → plus a + minus b ≤ plus b + minus a + n → plus b + minus a ≤ plus a + minus b + n → gap a b ≤ n
unfolding gap
gap-le a b n h k =
    ⊎_elim (λ z. omega (arith, difference_value a b, abs_value (a -ℤ b)))
    (λ z. omega (arith, difference_value a b, abs_value (a -ℤ b)))
    (one_sided (a -ℤ b))
