-- `test_tree::entry_listing` meets its contract: what has no room is refused; otherwise all keys are listed.
use native.Mathlib.Omega.{arith}
use Rattle.test_tree.proofs.Answers.{answer-taken, answer-refused}
use Rattle.test_tree.proofs.entry_listing.Goals as goal

pub returns-then-out-keys : goal.returns-then-out-keys
returns-then-out-keys c = answer-refused (λ t. omega arith)

pub returns : goal.returns
returns c = answer-taken (omega arith) c.listing.ensures
