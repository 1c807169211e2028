-- `rounds::finish_of` meets its contract. The invariant: what the rounds to come lead to, the model's rounds lead to from the start.
use Prim.Native.Nat.{◌-◌}
use Rattle.model.specs.Question.{length_of_state}
use Rattle.working.specs.InOrder as work
use Rattle.rounds.proofs.Run.{Running}
use Rattle.rounds.proofs.finish_of.Given as goal

abbrev pub invariant-loop-next : goal.invariant-loop-next
invariant-loop-next l = Running l.tail l.initial.at l.at l.count

abbrev pub decreases-loop-next : goal.decreases-loop-next
decreases-loop-next l = length_of_state l.tail (work.state_of l.initial.at) - l.count
