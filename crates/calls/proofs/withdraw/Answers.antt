-- `calls::withdraw` meets its contract: the range first, then the call at a place in range.
use mathlib.Core.Path.{◌∙◌}
use Rattle.model.specs.Call as call
use Rattle.plane.proofs.codes.Points.{read-located, out-located, located_is}
use Rattle.calls.proofs.PointCalls.{refused_is, by_point, withdraw_none, none_outside}
use Rattle.working.specs.WorkingDeck.{contents_of}
use Rattle.working.proofs.InOrder.{arranged-placed}
use Rattle.calls.proofs.withdraw.Goals as goal

pub withdraw_at-requires : goal.withdraw_at-requires
withdraw_at-requires c = record {
  t = (located_is _ _ (read-located _ _ _ c.ranges.x c.ranges.y c.locate.ensures ∙ c.in-Some.is)).1;
}

pub returns-in-None : goal.returns-in-None
returns-in-None c = let out = read-located _ _ _ c.ranges.x c.ranges.y c.locate.ensures ∙ c.in-None.is in
    refused_is c.args.d _ 9 (withdraw_none _ _ (none_outside _ (contents_of c.args.d) (arranged-placed _ c.args.d.form.in_order.arranged) (out-located _ out)))
    _ c.refuse.ensures

pub returns-in-Some : goal.returns-in-Some
returns-in-Some c = let there = read-located _ _ _ c.ranges.x c.ranges.y c.locate.ensures ∙ c.in-Some.is in
    by_point _ call.withdraw _ _ (located_is _ _ there).0 _ c.withdraw_at.ensures
