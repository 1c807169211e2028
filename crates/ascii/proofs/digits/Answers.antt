-- `ascii::digits` meets its contract: each round writes the last digit of what is left.
use Rattle.ascii.proofs.Decimals.{filled_end, filled_more, filled_full}
use Rattle.ascii.proofs.digits.Goals as goal

pub returns-then-rest-lt10-clause-places_after : goal.returns-then-rest-lt10-clause-places_after
returns-then-rest-lt10-clause-places_after c = filled_end _ _ _ _ c.loop-i.invariant c.loop-i-test.true c.if-rest-lt10.true

pub loop-i-preserved : goal.loop-i-preserved
loop-i-preserved c = filled_more _ _ _ _ c.loop-i.invariant c.loop-i-test.true c.if-rest-lt10.false

pub returns-clause-places_after : goal.returns-clause-places_after
returns-clause-places_after c = filled_full _ _ _ _ c.loop-i.invariant c.loop-i-test.false
