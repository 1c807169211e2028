-- `template::fill` meets its contract. The invariant: the bytes passed are put, with their numbers.
use native.Mathlib.Omega.{arith}
use Rattle.template.proofs.Filling.{fill_none, fill_more, fill_end}
use Rattle.template.proofs.fill.Goals as goal

pub loop-b-init : goal.loop-b-init
loop-b-init c = fill_none _ _ _ _

pub put_item-p-requires : goal.put_item-p-requires
put_item-p-requires c = let inv = c.loop-b.invariant in
    record { number_room_in_bounds = omega (arith, c.requires, inv.room, inv.same); used_in_bounds = inv.known }

pub loop-b-preserved : goal.loop-b-preserved
loop-b-preserved c = fill_more _ _ _ _ _ c.loop-b.invariant c.loop-b-test.true c.requires c.put_item-p.ensures c.put_item-p.auto.out

pub shape_of-out : goal.shape_of-out
shape_of-out c = c.loop-b.invariant.same

pub returns : goal.returns
returns c =
    let done = fill_end _ _ _ _ c.loop-b.invariant c.loop-b-test.false in
    record { pasted = done.0; upper_bound = done.1 }
