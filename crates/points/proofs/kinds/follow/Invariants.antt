-- `points::kinds::follow` meets its contract. The invariant: the kinds of the pins passed stand at the front, and behind them what stood there before.
use mathlib.Core.List.{List}
use Prim.Native.Nat.{ℕ}
use lib.Dec.{ltb}
use Rattle.arrays.specs.Beside.{beside}
use Rattle.points.proofs.kinds.Front.{Mapped}
use Rattle.points.proofs.kinds.follow.Given as goal

-- The kind of the next pin k.
abbrev pub kind_of : List ℕ → List ℕ → ℕ → ℕ → ℕ
kind_of pins kinds other k = beside ltb other k pins kinds

abbrev pub invariant-loop-i : goal.invariant-loop-i
invariant-loop-i l = Mapped (kind_of l.pins l.kinds l.other) l.next l.initial.out l.out l.i
