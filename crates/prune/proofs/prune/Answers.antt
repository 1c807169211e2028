-- `prune::prune` meets its contract. The invariant: what is left to sweep leads to the definition's result. The measure:
-- the Steiner points that are left.
use mathlib.Core.Path.{◌≡◌, refl, ap, ◌∙◌}
use native.Mathlib.Omega.{arith}
use Rattle.model.specs.State.{prune}
use Rattle.points.specs.declared.Points.{Points}
use Rattle.points.specs.Coded.{state_of}
use Rattle.prune.proofs.Sweep.{sweeping_start, sweeping_code, sweeping_less, sweeping_more, sweeping_end}
use Rattle.prune.proofs.prune.Goals as goal

pub arrange-w-requires : goal.arrange-w-requires
arrange-w-requires c = c.requires

pub loop-j-init : goal.loop-j-init
loop-j-init c = sweeping_start _ c.arrange-w.result _ refl c.lowest_weak-j.ensures

pub bounds-steiner-j : goal.bounds-steiner-j
bounds-steiner-j c = let l = c.loop-j in
    omega (arith, l.w.in_order.arranged.steiner_codes.few, l.w.in_order.arranged.steiner_codes.size)

pub without_steiner-requires : goal.without_steiner-requires
without_steiner-requires c = let l = c.loop-j in
    record { arranged = l.w.in_order.arranged; t = sweeping_code _ l.w _ l.invariant _ c.loop-j-test.true refl }

pub arrange-w-requires-in-loop-j : goal.arrange-w-requires-in-loop-j
arrange-w-requires-in-loop-j c = c.without_steiner.ensures.0

pub loop-j-smaller : goal.loop-j-smaller
loop-j-smaller c = let kept : c.arrange-w-in-loop-j.result.points ≡ c.without_steiner.result = c.arrange-w-in-loop-j.ensures in
    let same : c.arrange-w-in-loop-j.result.points.nsteiner ≡ c.without_steiner.result.nsteiner = λ i. (kept i).nsteiner in
    omega (arith, same, sweeping_less _ c.loop-j.w _ c.loop-j.invariant _ c.loop-j-test.true refl _ c.without_steiner.ensures)

pub loop-j-preserved : goal.loop-j-preserved
loop-j-preserved c = sweeping_more _ c.loop-j.w _ c.loop-j.invariant _ c.loop-j-test.true refl _ c.without_steiner.ensures
    c.arrange-w-in-loop-j.result _ c.arrange-w-in-loop-j.ensures
    c.lowest_weak-j-in-loop-j.ensures

pub returns : goal.returns
returns c =
    sweeping_end _ c.loop-j.w _ c.loop-j.invariant c.loop-j-test.false
    ∙ ap (λ (q : Points). prune (state_of q)) c.arrange-w.ensures
