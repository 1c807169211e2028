-- `columns::column` meets its contract: out of range there is no candidate, and else the search finds what the column names.
use mathlib.Core.Path.{◌≡◌, ap, ◌∙◌}
use native.Mathlib.Omega.{arith}
use lib.IntN.{ℤ, pos}
use mir.Syntax.{w32}
use mir.Val.{SFits}
use Rattle.plane.specs.Point.{Point}
use Rattle.plane.specs.Coordinate.{coordinate}
use Rattle.plane.proofs.codes.Points.{read-located, out-located, located_is}
use Rattle.model.specs.State.{points}
use Rattle.working.specs.InOrder as work
use Rattle.working.proofs.InOrder.{arranged-placed}
use Rattle.columns.specs.Column.{column_answer}
use Rattle.columns.specs.Found.{choice_of}
use Rattle.columns.proofs.Found.{located-small, column_found, out-column}
use Rattle.columns.proofs.column.Goals as goal

zero-fits : SFits w32 (pos 0)
zero-fits = record { sfits = omega arith }

pub greatest-requires : goal.greatest-requires
greatest-requires c =
    let there = read-located _ _ _ c.ranges.x zero-fits c.locate.ensures ∙ c.in-Some.is in
    record { x_le_stored_limit = located-small _ there c.x_of.ensures }

pub returns-in-None : goal.returns-in-None
returns-in-None c = let out = read-located _ _ _ c.ranges.x zero-fits c.locate.ensures ∙ c.in-None.is in
    out-column _ _ (arranged-placed _ c.args.w.in_order.arranged) _ (out-located _ out)

pub returns-in-Some : goal.returns-in-Some
returns-in-Some c = let there = read-located _ _ _ c.ranges.x zero-fits c.locate.ensures ∙ c.in-Some.is in
    let x : coordinate c.x_of.result ≡ c.args.x = ap coordinate c.x_of.ensures ∙ ap (λ (p : Point). p.x) (located_is _ _ there).0 in
    c.choice_of.ensures
    ∙ column_found _ _ (arranged-placed _ c.args.w.in_order.arranged) _ c.greatest.ensures.value
    ∙ ap (λ (z : ℤ). choice_of (column_answer c.args.tail (points (work.state_of c.args.w)) z)) x
