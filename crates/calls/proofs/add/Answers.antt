-- `calls::add` meets its contract: the range first, then the call at a place in range.
use mathlib.Core.Path.{◌∙◌}
use Rattle.plane.specs.Point.{Point}
use Rattle.model.specs.Call as call
use Rattle.plane.proofs.codes.Points.{read-located, out-located, located_is}
use Rattle.calls.proofs.PointCalls.{refused_is, by_point, add-out}
use Rattle.calls.proofs.add.Goals as goal

pub add_at-requires : goal.add_at-requires
add_at-requires c = let there = read-located _ _ _ c.ranges.x c.ranges.y c.locate.ensures ∙ c.in-Some.is in
    record { t = (located_is _ _ there).1; valid_contents = c.requires.valid_contents }

pub returns-in-None : goal.returns-in-None
returns-in-None c = let out = read-located _ _ _ c.ranges.x c.ranges.y c.locate.ensures ∙ c.in-None.is in
    refused_is c.args.d _ 7 (add-out _ _ _ (out-located _ out)) _ c.refuse.ensures

pub returns-in-Some : goal.returns-in-Some
returns-in-Some c = let there = read-located _ _ _ c.ranges.x c.ranges.y c.locate.ensures ∙ c.in-Some.is in
    by_point _ (λ (p : Point). call.add p c.args.kind) _ _ (located_is _ _ there).0 _ c.add_at.ensures
