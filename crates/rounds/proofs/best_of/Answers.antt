-- `rounds::best_of` meets its contract: the search is over the points of the state.
use mathlib.Core.Path.{◌∙◌}
use Rattle.rounds.proofs.Search.{given, best_is}
use borrow.Author.Rules.{rules}
use Rattle.rounds.proofs.best_of.Goals as goal

pub best-requires : goal.best-requires
best-requires c = (given c.args.w (search rules) (search rules) (search rules), c.requires.tail_le_longest_tail)

pub returns : goal.returns
returns c = c.best.ensures ∙ best_is c.args.w (search rules) (search rules) (search rules) c.args.tail
