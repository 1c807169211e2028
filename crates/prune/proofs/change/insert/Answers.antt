-- `prune::change::insert` meets its contract: a pin joins, and a sweep follows.
use mathlib.Core.Path.{ap, ◌∙◌}
use Rattle.model.specs.State.{insert, remove, prune}
use Rattle.prune.proofs.change.insert.Goals as goal

pub with_pin-requires : goal.with_pin-requires
with_pin-requires c = record { arranged = c.args.w.in_order.arranged; t = c.requires.t; npins_lt_max_pins = c.requires.npins_lt_max_pins }

pub prune-requires : goal.prune-requires
prune-requires c = c.with_pin.ensures.0

pub returns : goal.returns
unfolding insert remove
returns c = c.prune.ensures ∙ ap prune c.with_pin.ensures.1
