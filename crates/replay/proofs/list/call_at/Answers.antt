-- `replay::list::call_at` meets its contract: the call of the number and of the two numbers read.
use mathlib.Core.Path.{◌∙◌}
use Rattle.replay.proofs.list.Calls.{call_read}
use Rattle.replay.proofs.list.call_at.Goals as goal

pub returns : goal.returns
returns c = c.call.ensures ∙ call_read _ _ _ c.number4-first.ensures.0 c.number4-second.ensures.0
