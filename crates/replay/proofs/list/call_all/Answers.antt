-- `replay::list::call_all` meets its contract. The invariant: the deck is that after the first i calls.
use mathlib.Core.Path.{◌≡◌, refl}
use Prim.Native.Nat.{◌/◌}
use native.Mathlib.Omega.{arith}
use lib.ListN.{length}
use Rattle.deck.specs.Session.{deck_after}
use Rattle.replay.specs.Calls.{first_calls, calls_of}
use Rattle.replay.proofs.list.Calls.{one_more}
use Rattle.replay.proofs.list.call_all.Goals as goal

pub loop-i-init : goal.loop-i-init
unfolding deck_after first_calls
loop-i-init c = refl

pub loop-i-preserved : goal.loop-i-preserved
loop-i-preserved c = one_more _ _ _ c.loop-i.invariant c.call_at-next.ensures

pub returns : goal.returns
unfolding calls_of
returns c = let e : c.loop-i.i ≡ length c.args.calls.now / 12 = omega arith in rw e at c.loop-i.invariant
