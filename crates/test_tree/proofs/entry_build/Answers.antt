-- `test_tree::entry_build` meets its contract: what is refused is not built; otherwise the tree's keys are the answer.
use native.Mathlib.Omega.{arith}
use Rattle.test_tree.proofs.Answers.{answer-taken, answer-refused, build_given}
use Rattle.test_tree.proofs.entry_build.Goals as goal

pub returns-then-not-accepts : goal.returns-then-not-accepts
returns-then-not-accepts c = answer-refused (λ t. c.accepts.ensures.never c.if-not-accepts.true t.0)

pub returns-then-keys-n : goal.returns-then-keys-n
returns-then-keys-n c = answer-refused (λ t. omega (arith, t.1))

pub build-requires : goal.build-requires
build-requires c = build_given _ _ _ (c.accepts.ensures.sure c.if-not-accepts.false) (omega arith)

pub returns : goal.returns
returns c = answer-taken (c.accepts.ensures.sure c.if-not-accepts.false, omega arith) c.build.ensures
