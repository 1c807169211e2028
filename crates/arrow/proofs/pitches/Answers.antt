-- `arrow::pitches` meets its contract: the numbers are read back from their bits, and the quotient is the kit's, toward zero.
use mathlib.Core.Path.{ap₂, ◌∙◌}
use lib.IntN.{ℤ, ◌-ℤ◌}
use lib.Signed.{quot_z}
use Rattle.arrays.proofs.Signed.{read}
use Rattle.arrow.proofs.Pitch.{pitches-read}
use Rattle.arrow.proofs.pitches.Goals as goal

pub returns : goal.returns
returns c =
    ap₂ (λ (to from : ℤ). read (quot_z (read (read to -ℤ read from)) (read c.args.pitch))) c.from.ensures c.from-2.ensures
    ∙ pitches-read _ _ _ c.ranges.from c.ranges.to c.ranges.pitch c.requires
