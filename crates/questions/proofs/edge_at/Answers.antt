-- `questions::edge_at` meets its contract: the edge at the place, or none beyond the last.
use mathlib.Core.Path.{◌∙◌}
use Rattle.questions.proofs.Answers.{no_edge, edge-there}
use Rattle.questions.proofs.edge_at.Goals as goal

pub returns-then-d-i : goal.returns-then-d-i
returns-then-d-i c = no_edge _ c.args.d.form _ c.if-d-i.true

pub edge_at-requires : goal.edge_at-requires
edge_at-requires c = record {
  ends_value = c.edge_numbers-ends.ensures;
  i_lt_nkeys = c.if-d-i.false;
  tail_le_longest_tail = c.requires.tailed;
}

pub returns : goal.returns
returns c = c.answer_of.ensures ∙ edge-there _ _ _ _ c.edge_at.ensures
