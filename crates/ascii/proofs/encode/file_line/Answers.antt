-- `ascii::encode::file_line` meets its contract: the word, the length and the digits, one behind the other.
use Prim.Native.Nat.{◌+◌, ◌*◌}
use native.Mathlib.Omega.{arith}
use lib.ListN.{length}
use Rattle.ascii.specs.Encoding.{file_text}
use Rattle.ascii.proofs.Room.{front-put}
use Rattle.arrays.proofs.paste.Parts.{pasted_then}
use Rattle.ascii.proofs.encode.file_line.Goals as goal

pub returns : goal.returns
returns c =
    front-put (64 + 2 * length c.args.file.now) _ _ (file_text c.args.file.now) _ (omega arith)
    (pasted_then c.put_items-a.ensures (omega arith)
    (pasted_then c.decimal_field-b.ensures.pasted (omega arith)
    (pasted_then c.put_byte-c.ensures (omega arith) c.pairs.ensures)))
