-- `test_tree::entry_lengths` meets its contract: what is refused is not measured; otherwise the row of lengths is the answer.
use native.Mathlib.Omega.{arith}
use Rattle.test_tree.proofs.Answers.{answer-taken, answer-refused, row-front}
use Rattle.test_tree.proofs.entry_lengths.Goals as goal

pub returns-then-not-accepts : goal.returns-then-not-accepts
returns-then-not-accepts c = answer-refused (λ t. c.accepts.ensures.never c.if-not-accepts.true t.0)

pub returns-then-cy-c : goal.returns-then-cy-c
returns-then-cy-c c = answer-refused (λ t. c.if-cy-c.true t.1)

pub returns-then-out-c : goal.returns-then-out-c
returns-then-out-c c = answer-refused (λ t. omega (arith, t.2))

pub lengths-requires : goal.lengths-requires
lengths-requires c = (c.accepts.ensures.sure c.if-not-accepts.false, omega arith, omega arith)

pub returns : goal.returns
returns c = let points = c.accepts.ensures.sure c.if-not-accepts.false in
    answer-taken (points, omega arith, omega arith) (row-front _ _ _ _ c.lengths.ensures)
