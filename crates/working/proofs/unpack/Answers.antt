-- `working::unpack` meets its contract. The invariant: the points of the codes passed are held.
use native.Mathlib.Omega.{arith}
use Rattle.working.proofs.Held.{unpacked_none, unpacked_more}
use Rattle.working.proofs.unpack.Goals as goal

pub loop-i-init : goal.loop-i-init
loop-i-init c = unpacked_none _ _ _ _

pub loop-i-preserved : goal.loop-i-preserved
loop-i-preserved c = let l = c.loop-i in
    unpacked_more _ _ _ _ _ _ _ _ _ l.invariant (omega arith) (omega arith) (omega arith) c.x_of.ensures c.y_of.ensures

pub shape_of-xs : goal.shape_of-xs
shape_of-xs c = c.loop-i.invariant.size_x

pub shape_of-ys : goal.shape_of-ys
shape_of-ys c = c.loop-i.invariant.size_y

pub returns : goal.returns
returns c = λ i h. c.loop-i.invariant.points i (omega arith)
