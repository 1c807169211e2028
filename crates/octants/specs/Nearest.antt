-- The nearest point in each octant, to which a new point's edges can go.
use Rattle.std.specs.Prelude.{Bool, List, [], ◌∷◌, ℕ, ltb, ◌-ℤ◌}
use Rattle.std.proofs.Math.Option.{Option, none, some}
use Rattle.arrays.specs.Test.{if}
use Rattle.plane.specs.Point.{Point, dist}
use Rattle.octants.specs.Octant.{in_octant}

-- q is in octant k as seen from p (SPEC 3.1).
abbrev pub in_octant_of : ℕ → Point → Point → Bool
in_octant_of k p q = in_octant k (q.x -ℤ p.x) (q.y -ℤ p.y)

-- Of q and another point the nearer to p, q where they tie.
abbrev pub nearer : Point → Point → Option Point → Option Point
nearer p q none = some q
nearer p q (some r) = if (ltb (dist p r) (dist p q)) (λ _. some r) (λ _. some q)

-- The nearest of the points in octant k of p, the lower one if two are as near (SPEC 3.2); the points are given lower first.
unfoldable pub nearest : ℕ → Point → List Point → Option Point
nearest k p [] = none
nearest k p (q ∷ l) =
    let r = nearest k p l in
    if (in_octant_of k p q) (λ _. nearer p q r) (λ _. r)
