-- `numbers::magnitude` meets its contract. The invariant: the answer is the one for the digits left, after digits of the value so far, which is
-- at most `most`.
use mathlib.Core.Path.{◌≡◌}
use Prim.Native.Nat.{◌≤◌}
use lib.ListN.{drop}
use Rattle.numbers.specs.Numbers.{magnitude_of}
use Rattle.numbers.proofs.Digits.{read}
use Rattle.numbers.proofs.magnitude.Given as goal

abbrev pub invariant-loop-b : goal.invariant-loop-b
invariant-loop-b l = (l.value ≤ l.most) × (magnitude_of l.most l.digits ≡ read l.most l.value (drop l.b-index l.digits))
