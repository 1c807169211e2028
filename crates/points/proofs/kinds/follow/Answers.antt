-- `points::kinds::follow` meets its contract. The invariant: the kinds of the pins passed stand at the front, and behind them what stood there before.
use mathlib.Core.Path.{◌≡◌, subst}
use Prim.Native.Nat.{ℕ}
use native.Mathlib.Omega.{arith}
use lib.ListN.{length}
use Rattle.points.proofs.kinds.Front.{Mapped, mapped_none, mapped_more, mapped_put}
use Rattle.points.proofs.kinds.follow.Invariants.{kind_of}
use Rattle.points.proofs.kinds.follow.Goals as goal

pub loop-i-init : goal.loop-i-init
loop-i-init c = mapped_none _ _ _

pub loop-i-preserved : goal.loop-i-preserved
loop-i-preserved c = let m = c.loop-i.invariant in
    mapped_more (kind_of c.args.pins.now c.args.kinds.now c.args.other) c.args.next.now _ m c.loop-i-test.true
    (omega (arith, m.size, c.loop-i-test.true, c.requires.1)) c.kind_or.ensures

pub returns : goal.returns
returns c = let a = c.args in
    let kind = kind_of a.pins.now a.kinds.now a.other in
    let end : c.loop-i.i ≡ length a.next.now = omega arith in
    mapped_put kind a.next.now _ (subst (λ (i : ℕ). Mapped kind a.next.now a.out.now c.loop-i.out i) end c.loop-i.invariant)
