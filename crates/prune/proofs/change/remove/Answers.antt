-- `prune::change::remove` meets its contract: a pin leaves, and a sweep follows.
use mathlib.Core.Path.{ap, ◌∙◌}
use Rattle.model.specs.State.{insert, remove, prune}
use Rattle.prune.proofs.change.remove.Goals as goal

pub without_pin-requires : goal.without_pin-requires
without_pin-requires c = record { arranged = c.args.w.in_order.arranged; t = c.requires.t }

pub prune-requires : goal.prune-requires
prune-requires c = c.without_pin.ensures.0

pub returns : goal.returns
unfolding insert remove
returns c = c.prune.ensures ∙ ap prune c.without_pin.ensures.1
