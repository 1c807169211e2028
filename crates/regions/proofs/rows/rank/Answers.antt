-- `regions::rows::rank` meets its contract. The invariant: the rows passed are below y.
use mathlib.Core.Logic.{⊎_elim}
use native.Mathlib.Nat.{eq-or-lt_of_le}
use native.Mathlib.Omega.{arith}
use Rattle.regions.proofs.rows.rank.Goals as goal

-- No row behind the first that is not below y is below it.
pub returns-then-y-row : goal.returns-then-y-row
returns-then-y-row c = record {
  within = omega arith;
  below = c.loop-r.invariant;
  above = λ q h k. ⊎_elim (λ e. rw (← e) c.if-y-row.true) (λ g. omega (arith, c.requires.rises _ q g k)) (eq-or-lt_of_le h);
}
