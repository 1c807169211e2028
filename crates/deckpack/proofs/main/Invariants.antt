-- The deck so far is in order.
use Rattle.packing.specs.Held.{Packs}
use Rattle.deckpack.proofs.main.Given as goal

abbrev pub invariant-loop : goal.invariant-loop
invariant-loop l = Packs l.packing
