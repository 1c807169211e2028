-- `replies::candidate_line` meets its contract: what stands in front of the saving, then the saving.
use lib.IntN.{ℤ}
use native.Mathlib.Omega.{arith}
use Rattle.arrays.proofs.Signed.{read_two}
use Rattle.arrays.proofs.paste.Parts.{pasted_same, pasted_then}
use Rattle.model.specs.Listing.{field}
use Rattle.ascii.proofs.Signs.{field_again}
use Rattle.replies.specs.Replies.{column_word, saving_word, point_head}
use Rattle.replies.proofs.candidate_line.Goals as goal

pub returns : goal.returns
returns c = pasted_then (pasted_same (read_two (λ (x y : ℤ). point_head column_word x y (field saving_word)) _ _ c.ranges.x c.ranges.y)
    c.point_head-next.ensures.pasted) (omega arith)
    (field_again _ c.ranges.saving c.signed_field.ensures.pasted)
