-- `prune::change::with_steiner` meets its contract: a Steiner point joins, and a sweep follows.
use mathlib.Core.Path.{ap, ◌∙◌}
use Rattle.model.specs.State.{insert, remove, prune}
use Rattle.prune.proofs.change.with_steiner.Goals as goal

pub with_steiner-requires : goal.with_steiner-requires
with_steiner-requires c = record {
  arranged = c.args.w.in_order.arranged;
  t = c.requires.t;
  nsteiner_bound = c.requires.nsteiner_bound;
  fact = c.requires.fact;
}

pub prune-requires : goal.prune-requires
prune-requires c = c.with_steiner.ensures.0

pub returns : goal.returns
unfolding insert remove
returns c = c.prune.ensures ∙ ap prune c.with_steiner.ensures.1
