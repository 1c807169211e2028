-- `replay::list::call_all` meets its contract. The invariant: the deck is that after the first i calls.
use mathlib.Core.Path.{◌≡◌}
use Rattle.deck.specs.Session.{deck_after}
use Rattle.replay.specs.Calls.{first_calls}
use Rattle.replay.proofs.list.call_all.Given as goal

abbrev pub invariant-loop-i : goal.invariant-loop-i
invariant-loop-i l = l.next ≡ deck_after l.initial.next (first_calls l.i l.calls)
