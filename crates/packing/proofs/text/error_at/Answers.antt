-- `packing::text::error_at` meets its contract: the word behind the number.
use native.Mathlib.Omega.{arith}
use Rattle.arrays.proofs.paste.Parts.{pasted_then}
use Rattle.packing.proofs.text.error_at.Goals as goal

pub returns : goal.returns
returns c = pasted_then c.line_head-next.ensures.pasted (omega (arith, c.line_head-next.ensures.upper_bound)) c.put_items.ensures
