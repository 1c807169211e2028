-- `prune::first_weak` meets its contract. The invariant: the points passed have three edges or more.
use native.Mathlib.Omega.{arith}
use Rattle.prune.proofs.Weak.{strong_none, strong_more, strong_found, strong_end}
use Rattle.prune.proofs.first_weak.Goals as goal

pub loop-j-init : goal.loop-j-init
loop-j-init c = strong_none _ _ _

pub returns-then-degree_of-le2 : goal.returns-then-degree_of-le2
returns-then-degree_of-le2 c =
    strong_found _ _ _ _ _ _ c.loop-j.invariant (omega arith) c.index_of.ensures c.degree_of.ensures (omega arith)

pub loop-j-preserved : goal.loop-j-preserved
loop-j-preserved c =
    strong_more _ _ _ _ _ _ c.loop-j.invariant (omega arith) c.index_of.ensures c.degree_of.ensures (omega arith)

pub returns : goal.returns
returns c = strong_end _ _ _ _ c.loop-j.invariant (omega arith)
