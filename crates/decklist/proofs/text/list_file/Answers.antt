-- `decklist::text::list_file` meets its contract: a refusal's line, or the listing after a run to the end.
use Rattle.std.proofs.Common.{arith}
use Rattle.model.specs.File.{read_file}
use Rattle.model.proofs.FileAnswer.{read_possible}
use Rattle.ascii.proofs.Room.{front_none}
use Rattle.arrays.proofs.paste.Parts.{front-within}
use Rattle.deckfile.proofs.answer.Entry.{taken_valid, changed_valid}
use Rattle.decklist.proofs.text.Printed.{none_counted, roomy, printed_deck}
use Rattle.listing.proofs.Text.{text-refused}
use Rattle.decklist.proofs.text.list_file.Goals as goal

pub returns-then-out-lt-LISTING_ROOM : goal.returns-then-out-lt-LISTING_ROOM
returns-then-out-lt-LISTING_ROOM c =
    record { pasted = front_none 8704 _ _ c.if-out-lt-LISTING_ROOM.true; prefix_len = none_counted c.args.out.now }

pub returns-in-Err : goal.returns-in-Err
returns-in-Err c =
    let e = text-refused c.args.file.now _ c.in-Err.ensures in
    let f = roomy 128 _ _ _ _ _ (omega arith) c.if-out-lt-LISTING_ROOM.false e c.list_refusal.ensures in
    record { pasted = f; prefix_len = front-within f }

pub run_to_end-requires : goal.run_to_end-requires
run_to_end-requires c = record { valid_contents = taken_valid (read_file _) (read_possible _) c.in-Ok.ensures }

pub list_working-requires : goal.list_working-requires
list_working-requires c =
    record { valid_contents = changed_valid (taken_valid (read_file _) (read_possible _) c.in-Ok.ensures) c.run_to_end.ensures }

pub returns-in-Ok : goal.returns-in-Ok
returns-in-Ok c =
    let e = printed_deck c.args.file.now _ _ c.in-Ok.ensures c.run_to_end.ensures.next in
    let f = roomy 8704 _ _ _ _ _ (omega arith) c.if-out-lt-LISTING_ROOM.false e c.list_working.ensures in
    record { pasted = f; prefix_len = front-within f }
