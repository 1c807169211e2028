-- `ascii::signed` meets its contract: the magnitude, behind a minus sign where the number is negative.
use mathlib.Core.Path.{◌∙◌}
use native.Mathlib.Omega.{arith}
use Rattle.arrays.proofs.paste.Parts.{pasted_then}
use Rattle.ascii.proofs.Signs.{minus_put, plus_put}
use Rattle.ascii.proofs.signed.Goals as goal
use Rattle.ascii.proofs.signed.Goals.{then-z-lt0, else-z-lt0}

pub returns-clause-pasted : goal.returns-clause-pasted
returns-clause-pasted c =
    let size = c.from.ensures ∙ c.unsigned_abs.ensures.value in
    elim c.if-z-lt0.branch [
      | then-z-lt0 w ↦
          let digits = rw (w.out-is, w.next-is) at c.decimal.ensures.pasted in
          minus_put _ _ _ _ _ _ c.ranges.z size w.if-z-lt0.true (pasted_then w.put_byte-next.ensures (omega arith) digits)
      | else-z-lt0 w ↦
          let digits = rw (w.out-is, w.next-is) at c.decimal.ensures.pasted in
          plus_put _ _ _ _ _ _ c.ranges.z size w.if-z-lt0.false digits
    ]
