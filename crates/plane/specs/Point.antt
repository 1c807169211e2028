-- Points, when they are in range, which is lower, and their distance.
use Rattle.std.specs.Prelude.{◌≡◌, Bool, true, false, ◌&&◌, ℕ, ◌+◌, T, leb, eqb, ℤ, pos, negsuc, nat_abs, ◌-ℤ◌}
use Rattle.std.proofs.Common.{ap, eqb→eq}
use Rattle.std.proofs.Math.Path.{subst⁻¹}
use Rattle.std.proofs.Math.Dec.{eqb_refl}
use Rattle.std.specs.Int.Signed.{lt_z}
use Rattle.arrays.specs.Test.{then_by}

-- A point (SPEC 1.1): any two whole numbers of centimetres, in range or not.
pub record Point : Type 0 where
  pub x : ℤ
  pub y : ℤ

-- The point of two whole numbers.
abbrev pub point : ℤ → ℤ → Point
point x y = record { x = x; y = y }

-- The largest coordinate in range, and without its sign the smallest (SPEC 1.1).
abbrev pub limit : ℕ
limit = 30000

-- A coordinate in range (SPEC 1.1): at most the limit without its sign.
abbrev pub coordinate_in_range : ℤ → Bool
coordinate_in_range z = leb (nat_abs z) limit

-- A point in range (SPEC 1.1).
abbrev pub in_range : Point → Bool
in_range p = coordinate_in_range p.x && coordinate_in_range p.y

-- Which point is lower (SPEC 1.3): by x, then by y.
unfoldable pub lower : Point → Point → Bool
lower a b = then_by (lt_z a.x b.x) (lt_z b.x a.x) (λ _. lt_z a.y b.y)

-- a is lower than b, by that test.
abbrev pub Lower : Point → Point → Type 0
Lower a b = T (lower a b)

-- The distance along one axis.
unfoldable pub gap : ℤ → ℤ → ℕ
gap a b = nat_abs (a -ℤ b)

-- The distance of two points (SPEC 1.4): the gaps of both axes together.
unfoldable pub dist : Point → Point → ℕ
dist p q = gap p.x q.x + gap p.y q.y

-- Whether two whole numbers are equal, as a test that computes.
abbrev pub same_z : ℤ → ℤ → Bool
same_z (pos a) (pos b) = eqb a b
same_z (pos a) (negsuc b) = false
same_z (negsuc a) (pos b) = false
same_z (negsuc a) (negsuc b) = eqb a b

pub same_z-eq : (a b : ℤ) → T (same_z a b) → a ≡ b
same_z-eq (pos a) (pos b) t = ap pos (eqb→eq a b t)
same_z-eq (pos a) (negsuc b) t = absurd t
same_z-eq (negsuc a) (pos b) t = absurd t
same_z-eq (negsuc a) (negsuc b) t = ap negsuc (eqb→eq a b t)

pub same_z_refl : (a : ℤ) → T (same_z a a)
same_z_refl (pos a) = eqb_refl a
same_z_refl (negsuc a) = eqb_refl a

-- Whether two points are equal, by their coordinates.
unfoldable pub point_dec : Discrete Point
point_dec p q =
    by_x (same_z p.x q.x) (same_z-eq p.x q.x)
    (λ e. subst⁻¹ (λ (z : ℤ). T (same_z z q.x)) (ap (λ (r : Point). r.x) e) (same_z_refl q.x))
  where
    by_y : (b : Bool) → (T b → p.y ≡ q.y) → (p ≡ q → T b) → p.x ≡ q.x → Dec (p ≡ q)
    by_y true f g ex = let ey = f tt in yes (λ i. record { x = ex i; y = ey i })
    by_y false f g ex = no (λ e. g e)

    by_x : (b : Bool) → (T b → p.x ≡ q.x) → (p ≡ q → T b) → Dec (p ≡ q)
    by_x true f g =
        by_y (same_z p.y q.y) (same_z-eq p.y q.y)
        (λ e. subst⁻¹ (λ (z : ℤ). T (same_z z q.y)) (ap (λ (r : Point). r.y) e) (same_z_refl q.y)) (f tt)
    by_x false f g = no (λ e. g e)
