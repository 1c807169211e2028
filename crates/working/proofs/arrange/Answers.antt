-- `working::arrange` meets its contract: the codes merged, unpacked and built are the working form.
use mathlib.Core.Path.{refl}
use native.Mathlib.Omega.{arith}
use lib.ListN.{length-take}
use Rattle.tree.proofs.Taken.{taken_allowed, taken_built}
use Rattle.working.proofs.InOrder.{all_count, build_allowed, order_of}
use Rattle.arrays.proofs.paste.Parts.{front-count}
use Rattle.working.proofs.arrange.Goals as goal

pub union-npoints-requires : goal.union-npoints-requires
union-npoints-requires c = let p = c.requires in
    let pins = p.pin_codes in
    let steiner = p.steiner_codes in
    record {
      in_bounds = simp length-take (omega (arith, pins.few, p.room));
      a_value = pins.rise;
      b_value = steiner.rise;
    }

pub unpack-requires : goal.unpack-requires
unpack-requires c =
    let w = c.union-npoints.ensures in
    let long = length-take c.union-npoints.result c.union-npoints.new.to in
    let n = all_count _ c.requires in
    (omega (arith, long, c.requires.room, n, front-count w), omega (arith, long, c.requires.room, n, front-count w))

pub build-nkeys-requires : goal.build-nkeys-requires
build-nkeys-requires c =
    let p = c.requires in
    let w = c.union-npoints.ensures in
    let n = all_count _ p in
    taken_allowed c.unpack.new.xs c.unpack.new.ys c.union-npoints.result (omega (arith, p.room, n, front-count w)) (omega (arith, p.room, n, front-count w))
    (build_allowed _ p _ _ _ _ _ w c.unpack.ensures _ refl (omega (arith, p.room, n, front-count w)) (omega (arith, p.room, n, front-count w)))

pub invariant_of-result : goal.invariant_of-result
invariant_of-result c =
    let p = c.requires in
    let w = c.union-npoints.ensures in
    let n = all_count _ p in
    let built = taken_built c.unpack.new.xs c.unpack.new.ys c.union-npoints.result (omega (arith, p.room, n, front-count w))
    (omega (arith, p.room, n, front-count w)) c.build-nkeys.ensures in
    record { in_order = order_of _ p _ _ _ _ _ w c.unpack.ensures _ _ _ built }
