-- `bottleneck::choice` meets its contract: each arm is one outcome of the test in `chosen`.
use mathlib.Core.Path.{sym}
use Rattle.bottleneck.proofs.Rows.{chosen_hit, chosen_miss}
use Rattle.bottleneck.proofs.choice.Goals as goal

pub returns-then-label-wanted : goal.returns-then-label-wanted
returns-then-label-wanted c = sym (chosen_hit _ _ _ _ c.if-label-wanted.true)

pub returns-else-label-wanted : goal.returns-else-label-wanted
returns-else-label-wanted c = sym (chosen_miss _ _ _ _ c.if-label-wanted.false)
