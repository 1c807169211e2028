-- `regions::nearest::Points::relax_point` meets its contract: the rows below the point and the others, one run behind the other.
use mathlib.Core.Path.{refl, ap, ◌∙◌}
use Prim.Native.Nat.{ℕ, ◌+◌, ◌*◌}
use native.Mathlib.Omega.{arith}
use Rattle.regions.proofs.nearest.Sides.{relax_given, point_more}
use Rattle.regions.proofs.nearest.Points.relax_point.Goals as goal

pub relax_rows-requires : goal.relax_rows-requires
relax_rows-requires c = let g = c.args.self.now.given in
    let p = c.requires.point_given in
    relax_given g p.0 p.1 (omega arith) (g.ranked _ p.0) (omega arith) (omega arith) c.requires.at_rows.complements (omega arith) refl

pub relax_rows-requires-2 : goal.relax_rows-requires-2
relax_rows-requires-2 c = let g = c.args.self.now.given in
    let p = c.requires.point_given in
    relax_given g p.0 p.1 (g.ranked _ p.0) (omega arith) (omega arith) (omega arith) c.relax_rows.ensures.complements
    (omega arith) refl

pub returns : goal.returns
returns c = let g = c.args.self.now.given in
    let p = c.requires.point_given in
    let along = ap (λ (z : ℕ). z * 128 + c.args.j) (c.from.ensures ∙ c.apart.ensures) in
    point_more g p.0 p.1 along (omega arith) c.relax_rows.ensures c.relax_rows-2.ensures c.requires.at_rows
