-- `template::fill` meets its contract. The invariant: the bytes passed are put, with their numbers.
use Rattle.template.proofs.Filling.{Filling}
use Rattle.template.proofs.fill.Given as goal

abbrev pub invariant-loop-b : goal.invariant-loop-b
invariant-loop-b l = Filling l.template l.numbers l.initial.out l.out l.at l.next l.used l.b-index
