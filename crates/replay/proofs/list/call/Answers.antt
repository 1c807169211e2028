-- `replay::list::call` meets its contract: each arm makes the call of its number.
use mathlib.Core.Path.{refl}
use Rattle.arrays.proofs.Signed.{read_is}
use Rattle.plane.specs.Point.{Point}
use Rattle.model.specs.Call.{add, withdraw}
use Rattle.replay.specs.Calls.{call_of}
use Rattle.replay.proofs.list.Calls.{one_call, point_call, no_call}
use native.Mathlib.Omega.{arith}
use Rattle.replay.proofs.list.call.Goals as goal

pub returns-in-0 : goal.returns-in-0
unfolding call_of
returns-in-0 c = point_call _ c.in-0.is _ _ _ (λ (p : Point). add p c.args.kind) _ _
    (read_is (record { sfits = c.signed32.type_inv }) c.signed32.ensures)
    (read_is (record { sfits = c.signed32-in-0.type_inv }) c.signed32-in-0.ensures) refl (rw c.from.ensures at c.add.ensures)

pub returns-in-1 : goal.returns-in-1
unfolding call_of
returns-in-1 c = point_call _ c.in-1.is _ _ _ withdraw _ _
    (read_is (record { sfits = c.signed32-in-1.type_inv }) c.signed32-in-1.ensures)
    (read_is (record { sfits = c.signed32-in-1-2.type_inv }) c.signed32-in-1-2.ensures) refl c.withdraw.ensures

pub returns-in-2 : goal.returns-in-2
unfolding call_of
returns-in-2 c = one_call _ c.in-2.is _ _ _ refl c.round.ensures

pub returns-in-3 : goal.returns-in-3
unfolding call_of
returns-in-3 c = one_call _ c.in-3.is _ _ _ refl c.run_to_end.ensures

pub returns-in-4 : goal.returns-in-4
unfolding call_of
returns-in-4 c = one_call _ c.in-4.is _ _ _ refl c.set_tail.ensures

pub returns-in_default : goal.returns-in_default
returns-in_default c = no_call _ _ _ _ _ (λ h. omega arith) (λ h. omega arith) (λ h. omega arith) (λ h. omega arith) (λ h. omega arith)
