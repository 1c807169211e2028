-- `directions::glyph_line` meets its contract: without room nothing is written, and with room the word and the glyph.
use native.Mathlib.Omega.{arith}
use Rattle.arrays.proofs.paste.Parts.{pasted_then}
use Rattle.ascii.proofs.Room.{front_none, front-put}
use Rattle.directions.proofs.glyph_line.Goals as goal

pub returns-then-out-lt-LINE_ROOM : goal.returns-then-out-lt-LINE_ROOM
returns-then-out-lt-LINE_ROOM c = front_none 128 _ _ c.if-out-lt-LINE_ROOM.true

pub returns : goal.returns
returns c = front-put 128 _ _ _ _ c.if-out-lt-LINE_ROOM.false (pasted_then c.put_items-a.ensures (omega arith) c.put_byte.ensures)
