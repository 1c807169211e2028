-- `columns::put_free` meets its contract, by the two outcomes of its test.
use native.Mathlib.Omega.{arith}
use Rattle.columns.proofs.Rows.{row-held, row-free}
use Rattle.columns.proofs.put_free.Goals as goal

pub returns-then-has : goal.returns-then-has
returns-then-has c = record { pasted = row-held _ _ _ _ c.pack.ensures.0 _ _ c.has.ensures c.if-has.true; upper_bound = omega arith }

pub returns : goal.returns
returns c = record { pasted = row-free _ _ _ _ c.pack.ensures.0 _ _ c.has.ensures c.if-has.false c.requires; upper_bound = omega arith }
