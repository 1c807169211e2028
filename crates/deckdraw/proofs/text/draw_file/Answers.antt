-- `deckdraw::text::draw_file` meets its contract: the line of a refusal, or the picture of the deck that was read.
use Rattle.std.proofs.Common.{arith}
use Rattle.arrays.proofs.paste.Parts.{front-within}
use Rattle.model.specs.File.{read_file}
use Rattle.model.proofs.FileAnswer.{read_possible}
use Rattle.deckfile.proofs.answer.Entry.{taken_valid}
use Rattle.listing.proofs.ForFile.{prints_none, prints_refusal, prints_deck}
use Rattle.picture.specs.Picture.{picture_of}
use Rattle.picture.specs.Rooms.{picture_room}
use Rattle.deckdraw.proofs.text.draw_file.Goals as goal

pub returns-then-out-lt-PICTURE_ROOM : goal.returns-then-out-lt-PICTURE_ROOM
returns-then-out-lt-PICTURE_ROOM c =
    let p = prints_none picture_room picture_of (read_file c.args.file.now) _ c.if-out-lt-PICTURE_ROOM.true in
    record { prints = p; prefix_len = front-within p.put }

pub returns-in-Err : goal.returns-in-Err
returns-in-Err c =
    let p =
    prints_refusal picture_room picture_of (read_file c.args.file.now) _ _ c.in-Err.ensures c.if-out-lt-PICTURE_ROOM.false (omega arith)
    c.list_refusal.ensures
    in
    record { prints = p; prefix_len = front-within p.put }

pub draw_working-requires : goal.draw_working-requires
draw_working-requires c = record { valid_contents = taken_valid (read_file _) (read_possible _) c.in-Ok.ensures }

pub returns-in-Ok : goal.returns-in-Ok
returns-in-Ok c =
    let p = prints_deck picture_room picture_of (read_file c.args.file.now) _ _ c.in-Ok.ensures c.draw_working.ensures in
    record { prints = p; prefix_len = front-within p.put }
