-- `kruskal::choice` meets its contract: each arm is one outcome of the test in `moved`.
use Rattle.kruskal.proofs.Labels.{moved_hit, moved_miss}
use mathlib.Core.Path.{sym}
use Rattle.kruskal.proofs.choice.Goals as goal

pub returns-then-c-a : goal.returns-then-c-a
returns-then-c-a c = sym (moved_hit _ _ _ c.if-c-a.true)

pub returns-else-c-a : goal.returns-else-c-a
returns-else-c-a c = sym (moved_miss _ _ _ c.if-c-a.false)
