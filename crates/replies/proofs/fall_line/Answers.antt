-- `replies::fall_line` meets its contract: what stands in front of the fall, then the fall.
use lib.IntN.{ℤ}
use native.Mathlib.Omega.{arith}
use Rattle.arrays.proofs.Signed.{read_two}
use Rattle.arrays.proofs.paste.Parts.{pasted_same, pasted_then}
use Rattle.model.specs.Listing.{field, tap_word}
use Rattle.replies.specs.Replies.{fall_word, point_head}
use Rattle.replies.proofs.fall_line.Goals as goal

pub returns : goal.returns
returns c = pasted_then (pasted_same (read_two (λ (x y : ℤ). point_head tap_word x y (field fall_word)) _ _ c.ranges.x c.ranges.y)
    c.point_head-next.ensures.pasted) (omega arith)
    c.decimal_field.ensures.pasted
