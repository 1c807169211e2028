-- `score::length::length_with` meets its contract: the gain of the place's rays says how much shorter the tree is than with an edge of
-- length FAR.
use mathlib.Core.Path.{◌∙◌}
use native.Mathlib.Omega.{arith}
use Rattle.score.proofs.Geometry.{column-given}
use Rattle.score.proofs.length.Point.{one_row, point_prepared, whole-short, length_is_lem}
use Rattle.score.proofs.length.length_with.Goals as goal

pub locate-requires : goal.locate-requires
locate-requires c =
    let m = c.requires.measured in
    let r = c.requires.n_nonzero in
    (one_row c.args.y, omega arith, r.1, omega arith)

-- In each, q is what was worked out of the points and the row.
pub invariant_of-points : goal.invariant_of-points
invariant_of-points c =
    let r = c.requires.n_nonzero in
    let t = c.type_inv in
    let q = point_prepared c.requires.measured (λ i. (t.xs i).fits) (λ i. (t.ys i).fits) r.0 (omega arith) (c.locate.auto.gaps ∙ r.1) (omega arith)
    c.locate.ensures in
    record { given = column-given q }

pub overflow_add-result : goal.overflow_add-result
overflow_add-result c =
    let r = c.requires.n_nonzero in
    let t = c.type_inv in
    let q = point_prepared c.requires.measured (λ i. (t.xs i).fits) (λ i. (t.ys i).fits) r.0 (omega arith) (c.locate.auto.gaps ∙ r.1) (omega arith)
    c.locate.ensures in
    omega (arith, whole-short c.requires.measured q)

-- The length with the place and the gain are the tree's length and FAR.
pub overflow_sub-result : goal.overflow_sub-result
overflow_sub-result c =
    let r = c.requires.n_nonzero in
    let t = c.type_inv in
    let q = point_prepared c.requires.measured (λ i. (t.xs i).fits) (λ i. (t.ys i).fits) r.0 (omega arith) (c.locate.auto.gaps ∙ r.1) (omega arith)
    c.locate.ensures in
    omega (arith, c.gain_at.ensures, length_is_lem c.requires.measured q (omega arith) c.nearest.ensures)

pub returns : goal.returns
returns c =
    let r = c.requires.n_nonzero in
    let t = c.type_inv in
    let q = point_prepared c.requires.measured (λ i. (t.xs i).fits) (λ i. (t.ys i).fits) r.0 (omega arith) (c.locate.auto.gaps ∙ r.1) (omega arith)
    c.locate.ensures in
    omega (arith, c.gain_at.ensures, length_is_lem c.requires.measured q (omega arith) c.nearest.ensures)
