-- `buffer::put_pair` meets its contract: one number behind the other.
use native.Mathlib.Omega.{arith}
use Rattle.arrays.proofs.paste.Parts.{pasted_then}
use Rattle.buffer.proofs.put_pair.Goals as goal

pub returns : goal.returns
returns c = pasted_then c.put4-next.ensures (omega arith) c.put4.ensures
