-- `listing::list_working` meets its contract: the head line, the line of kinds, the tap lines and the run lines in turn.
use native.Mathlib.Omega.{arith}
use Rattle.arrays.proofs.paste.Parts.{pasted_then}
use Rattle.ascii.proofs.Room.{front-put}
use Rattle.listing.proofs.Text.{listing-put}
use Rattle.listing.proofs.list_working.Goals as goal

pub returns : goal.returns
returns c =
    front-put 8704 _ _ _ _ c.if-out-lt-LISTING_ROOM.false
    (listing-put c.args.d _ _ c.measure-m.ensures c.kind_lengths-lengths.ensures
    (pasted_then c.numbers_line-kinds.ensures.pasted (omega arith)
    (pasted_then c.numbers_line-taps.ensures.pasted (omega arith)
    (pasted_then c.write_taps-runs.ensures.pasted (omega arith) c.run_lines.ensures))))
