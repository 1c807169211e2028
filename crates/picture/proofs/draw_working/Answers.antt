-- `picture::draw_working` meets its contract: the parts of the picture in turn, each behind the one before.
use native.Mathlib.Omega.{arith}
use Rattle.arrays.proofs.paste.Parts.{pasted_then}
use Rattle.ascii.proofs.Room.{front-put}
use Rattle.picture.specs.Rooms.{picture_room}
use Rattle.picture.proofs.Texts.{picture_put}
use Rattle.picture.proofs.draw_working.Goals as goal

pub returns : goal.returns
returns c =
    front-put picture_room _ _ _ _ c.if-out-lt-PICTURE_ROOM.false
    (picture_put c.args.d _ _ c.measure-m.ensures c.frame_for-f.ensures
    (pasted_then c.put_head-runs.ensures.pasted (omega arith)
    (pasted_then c.put_runs-end.ensures.pasted (omega arith)
    (pasted_then c.put_items-symbols.ensures (omega arith)
    (pasted_then c.put_points-foot.ensures.pasted (omega arith) c.put_foot.ensures.pasted)))))
