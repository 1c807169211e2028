-- `packing::text::refused_at` meets its contract: the refusal behind the number.
use native.Mathlib.Omega.{arith}
use Rattle.arrays.proofs.paste.Parts.{pasted_then}
use Rattle.packing.proofs.text.refused_at.Goals as goal

pub returns : goal.returns
returns c = pasted_then c.line_head-a.ensures.pasted (omega (arith, c.line_head-a.ensures.upper_bound)) c.refused_line.ensures
