-- Examples of octants and of nearest points.
use Rattle.std.specs.Prelude.{◌≡◌, List, [], ◌∷◌, ℕ, pos, negsuc}
use Rattle.std.proofs.Math.Option.{Option, none, some}
use Rattle.plane.specs.Point.{Point, point, gap, dist}
use Rattle.octants.specs.Octant.{conditions, first_true, octant}
use Rattle.octants.specs.Nearest.{nearest}

-- The octants of a list of differences.
unfoldable pub octants : List Point → List ℕ
unfolding conditions first_true octant
octants [] = []
octants (d ∷ l) = octant d.x d.y ∷ octants l

-- The borders of all eight octants, and a difference inside each; 8 is the answer for no difference.
abbrev pub Borders : Type 0
Borders =
    octants (point (negsuc 0) (pos 0) ∷ point (negsuc 0) (negsuc 0) ∷ point (pos 0) (negsuc 0) ∷ point (pos 1) (negsuc 0)
    ∷ point (pos 2) (pos 1) ∷ point (pos 1) (pos 2) ∷ point (negsuc 0) (pos 2) ∷ point (negsuc 1) (pos 1)
    ∷ point (negsuc 1) (negsuc 0) ∷ point (negsuc 0) (negsuc 1) ∷ point (pos 1) (negsuc 1) ∷ point (pos 2) (negsuc 0) ∷ point (pos 0) (pos 0) ∷ [])
    ≡ 4 ∷ 5 ∷ 6 ∷ 7 ∷ 0 ∷ 1 ∷ 2 ∷ 3 ∷ 4 ∷ 5 ∷ 6 ∷ 7 ∷ 8 ∷ []

-- The nearest of the points in each octant, from octant 0 on.
unfoldable pub star : Point → List Point → List (Option Point)
unfolding gap dist conditions nearest
star p ps =
    nearest 0 p ps ∷ nearest 1 p ps ∷ nearest 2 p ps ∷ nearest 3 p ps ∷ nearest 4 p ps ∷ nearest 5 p ps
    ∷ nearest 6 p ps ∷ nearest 7 p ps ∷ []

-- (5,0) lies on the ray where octant 0 begins and octant 7 ends. Octant 0 has it, and octant 7 offers (2,−2): with octants closed at both
-- ends the nearer points (2,2) and (2,−2) would hide it from (0,0).
abbrev pub NearestInOctants : Type 0
NearestInOctants =
    star (point (pos 0) (pos 0)) (point (pos 2) (negsuc 1) ∷ point (pos 2) (pos 2) ∷ point (pos 5) (pos 0) ∷ [])
    ≡ some (point (pos 5) (pos 0)) ∷ some (point (pos 2) (pos 2)) ∷ none ∷ none ∷ none ∷ none ∷ none ∷ some (point (pos 2) (negsuc 1)) ∷ []

-- Two points at the same distance in one octant: the lower is the nearest.
abbrev pub LowerOfEquals : Type 0
LowerOfEquals =
    nearest 0 (point (pos 0) (pos 0)) (point (pos 5) (pos 2) ∷ point (pos 6) (pos 1) ∷ point (pos 7) (pos 0) ∷ []) ≡ some (point (pos 5) (pos 2))
