-- `search::better` meets its contract, by the two outcomes of its test.
use borrow.Author.Tests.{lt-ltb, le-ltb}
use Rattle.search.proofs.better.Goals as goal

pub returns-then-known-g : goal.returns-then-known-g
returns-then-known-g c = rw (lt-ltb _ _ c.if-known-g.true)

pub returns : goal.returns
returns c = rw (le-ltb _ _ c.if-known-g.false)
