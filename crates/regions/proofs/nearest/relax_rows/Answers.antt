-- `regions::nearest::relax_rows` meets its contract. The invariant: the rows passed are relaxed.
use native.Mathlib.Omega.{arith}
use lib.ListN.{length-set}
use Rattle.regions.proofs.nearest.Relaxation.{complement_less, offered_steep, offered_flat, relax_none, relax_more, relax_end}
use Rattle.regions.proofs.nearest.relax_rows.Goals as goal

pub loop-r-init : goal.loop-r-init
loop-r-init c = relax_none c.requires

pub less-steeper-requires : goal.less-steeper-requires
less-steeper-requires c = let near = c.requires.near c.loop-r.r (omega arith) in
    (omega arith, omega arith)

pub overflow_sub-k : goal.overflow_sub-k
overflow_sub-k c = omega (arith, c.requires.near c.loop-r.r (omega arith))

pub larger-s-requires : goal.larger-s-requires
larger-s-requires c = (c.loop-r.invariant.complements.low _, omega arith)

pub larger-f-requires : goal.larger-f-requires
larger-f-requires c = (c.loop-r.invariant.complements.low _, omega arith)

pub bounds-least-flat-in-loop-r : goal.bounds-least-flat-in-loop-r
bounds-least-flat-in-loop-r c = simp length-set (omega arith)

pub loop-r-preserved : goal.loop-r-preserved
loop-r-preserved c = let p = c.requires in
    let q = c.loop-r.invariant in
    let less = complement_less _ _ p.leaves in
    relax_more p (omega arith) (omega arith) q c.larger-s.ensures.1 c.larger-f.ensures.1
    (offered_steep less c.less-steeper.ensures c.larger-s.ensures.0 c.choose.ensures.0)
    (offered_flat less c.less-steeper.ensures c.larger-f.ensures.0 c.choose-in-loop-r.ensures.0)

pub returns : goal.returns
returns c = relax_end c.requires (omega arith) (omega arith) c.loop-r.invariant
