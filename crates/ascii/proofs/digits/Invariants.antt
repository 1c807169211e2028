-- `ascii::digits` meets its contract. The invariant: what is left of the number is still to be written in front of the
-- digits that stand behind.
use Rattle.ascii.proofs.Decimals.{Filled}
use Rattle.ascii.proofs.digits.Given as goal

abbrev pub invariant-loop-i : goal.invariant-loop-i
invariant-loop-i l = Filled l.n l.places l.rest l.i
