-- Codes and points in range correspond, and the order of codes is `lower`. By the two stored coordinates of a code: a number is
-- a code if both are at most 60,000, and then it is nothing but the two.
use mathlib.Core.Path.{◌≡◌, refl, sym, ap, ap₂, ◌∙◌, subst⁻¹}
use mathlib.Core.Logic.{⊎_elim}
use mathlib.Core.Bool.{Bool, true, false}
use mathlib.Core.List.Memᴰ.{cases_cons as cases}
use mathlib.Core.List.Memᴰ.{head}
use mathlib.Core.List.Memᴰ.{tail}
use mathlib.Core.List.{List, [], ◌∷◌, map, Memᴰ}
use mathlib.Core.List.Memᴰ.{not-nil}
use Prim.Native.Nat.{ℕ, ◌/◌, ◌%◌, ◌≤◌, ◌<◌}
use native.Mathlib.Omega.{arith}
use lib.IntN.{ℤ}
use mir.Syntax.{w32}
use mir.Val.{SFits}
use lib.Dec.{T, ltb, leb, leb→le, le→leb, ltb→lt, lt→ltb}
use Rattle.plane.specs.Point.{Point, point, coordinate_in_range, in_range, lower}
use Rattle.plane.specs.Coordinate.{base, stored_limit, coordinate, stored_of}
use Rattle.plane.specs.Code.{x_of, y_of, code, point_of, is_code, located}
use Rattle.arrays.specs.Test.{if}
use Rattle.std.specs.Prelude.{Option, Some, None}
use Rattle.arrays.proofs.Signed.{read, read_two}
use Rattle.arrays.proofs.Test.{and_parts, and_both, same_test, true_of, of_true}
use Rattle.plane.proofs.Stored.{coordinate-stored, stored-bound, coordinate_range, stored-coordinate, lower_true, lower_false}

abbrev pub AllCodes : List ℕ → Type 0
AllCodes l = (k : ℕ) → Memᴰ k l → T (is_code k)

abbrev pub AllInRange : List Point → Type 0
AllInRange l = (p : Point) → Memᴰ p l → T (in_range p)

-- Both parts of a code are stored coordinates in range.
pub code-small : (k : ℕ) → T (is_code k) → (k / base ≤ stored_limit) × (k % base ≤ stored_limit)
code-small k t =
    let h = and_parts (leb (k / base) stored_limit) (leb (k % base) stored_limit) t in
    (leb→le (k / base) stored_limit h.0, leb→le (k % base) stored_limit h.1)

-- A point in range and its code.
module _ (p : Point) (r : T (in_range p)) where
  ins : T (coordinate_in_range p.x) × T (coordinate_in_range p.y)
  ins = and_parts (coordinate_in_range p.x) (coordinate_in_range p.y) r

  small : (stored_of p.x ≤ stored_limit) × (stored_of p.y ≤ stored_limit)
  small = (stored-bound p.x ins.0, stored-bound p.y ins.1)

  pub code_is : T (is_code (code p))
  unfolding code
  code_is =
      let h = small in
      and_both (leb (code p / base) stored_limit) (leb (code p % base) stored_limit)
      (le→leb (code p / base) stored_limit (omega arith)) (le→leb (code p % base) stored_limit (omega arith))

  pub point-code : point_of (code p) ≡ p
  unfolding code
  point-code =
      let h = small in
      let ex : x_of (code p) ≡ stored_of p.x = omega arith in
      let ey : y_of (code p) ≡ stored_of p.y = omega arith in
      λ i. record {
        x = (ap coordinate ex ∙ coordinate-stored p.x ins.0) i;
        y = (ap coordinate ey ∙ coordinate-stored p.y ins.1) i;
      }

-- A code and its point.
module _ (k : ℕ) (t : T (is_code k)) where
  pub code-point : code (point_of k) ≡ k
  unfolding code
  code-point = let h = code-small k t in omega (arith, stored-coordinate (x_of k), stored-coordinate (y_of k))

  pub code-in_range : T (in_range (point_of k))
  code-in_range =
      let h = code-small k t in
      and_both (coordinate_in_range (coordinate (x_of k))) (coordinate_in_range (coordinate (y_of k)))
      (coordinate_range (x_of k) (omega arith)) (coordinate_range (y_of k) (omega arith))

-- What locating a point answers, and what the answer says of the point.
pub located_in : (p : Point) → in_range p ≡ true → located p ≡ Some (code p)
unfolding located
located_in p e = ap (λ (b : Bool). if b (λ _. Some (code p)) (λ _. None)) e

pub located-out : (p : Point) → in_range p ≡ false → located p ≡ None
unfolding located
located-out p e = ap (λ (b : Bool). if b (λ _. Some (code p)) (λ _. None)) e

pub out-located : (p : Point) → located p ≡ None → in_range p ≡ false
out-located p e = go (in_range p) refl
  where
    go : (b : Bool) → in_range p ≡ b → in_range p ≡ false
    go true i = let f = located_in p i in let h : ◌≡◌ {A = ℕ} 0 1 = cc in absurd (omega arith)
    go false i = i

pub in_located : (p : Point) (k : ℕ) → located p ≡ Some k → T (in_range p) × (k ≡ code p)
in_located p k e = go (in_range p) refl
  where
    go : (b : Bool) → in_range p ≡ b → T (in_range p) × (k ≡ code p)
    go true i = let f = located_in p i in (of_true i, cc)
    go false i = let f = located-out p i in let h : ◌≡◌ {A = ℕ} 0 1 = cc in absurd (omega arith)

pub located_is : (p : Point) (k : ℕ) → located p ≡ Some k → (point_of k ≡ p) × T (is_code k)
located_is p k e =
    let h = in_located p k e in
    (ap point_of h.1 ∙ point-code p h.0, subst⁻¹ (λ (z : ℕ). T (is_code z)) h.1 (code_is p h.0))

-- The answer for two numbers that are handed on.
pub read-located : (x y : ℤ) (r : Option ℕ) → SFits w32 x → SFits w32 y → r ≡ located (point (read x) (read y)) → located (point x y) ≡ r
read-located x y r f g e = sym (e ∙ read_two (λ (a b : ℤ). located (point a b)) x y f g)

-- The order of codes is that of their points.
pub code-order : (a b : ℕ) → T (is_code a) → T (is_code b) → ltb a b ≡ lower (point_of a) (point_of b)
code-order a b s t = same_test (ltb a b) (lower (point_of a) (point_of b)) (λ u. up (ltb→lt a b u) (lower (point_of a) (point_of b)) refl) down
  where
    sa : (a / base ≤ stored_limit) × (a % base ≤ stored_limit)
    sa = code-small a s

    sb : (b / base ≤ stored_limit) × (b % base ≤ stored_limit)
    sb = code-small b t

    up : a < b → (r : Bool) → lower (point_of a) (point_of b) ≡ r → T r
    up h true e = tt
    up h false e =
        ⊎_elim (λ l. absurd (omega (arith, sa, sb))) (λ l. absurd (omega (arith, sa, sb))) (lower_false (x_of a) (y_of a) (x_of b) (y_of b) e)

    down : T (lower (point_of a) (point_of b)) → T (ltb a b)
    down u =
        lt→ltb a b (⊎_elim (λ l. omega (arith, sa, sb)) (λ l. omega (arith, sa, sb))
        (lower_true (x_of a) (y_of a) (x_of b) (y_of b) (true_of (lower (point_of a) (point_of b)) u)))

-- A list of points in range is that of its codes, and a list of codes that of its points.
pub map-codes : (l : List Point) → AllInRange l → map point_of (map code l) ≡ l
map-codes [] h = refl
map-codes (p ∷ l) h = ap₂ ◌∷◌ (point-code p (h p (head refl))) (map-codes l (λ q i. h q (tail i)))

pub map-points : (l : List ℕ) → AllCodes l → map code (map point_of l) ≡ l
map-points [] h = refl
map-points (k ∷ l) h = ap₂ ◌∷◌ (code-point k (h k (head refl))) (map-points l (λ q i. h q (tail i)))

pub codes_are : (l : List Point) → AllInRange l → AllCodes (map code l)
codes_are [] h k i = absurd (not-nil i)
codes_are (p ∷ l) h k i =
    ⊎_elim (λ e. subst⁻¹ (λ (z : ℕ). T (is_code z)) e (code_is p (h p (head refl)))) (codes_are l (λ q j. h q (tail j)) k) (cases i)
