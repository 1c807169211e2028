-- `directions::indication_line` meets its contract: without room nothing is written, and with room the line of a refusal or of an arrow.
use mathlib.Core.Path.{sym, ap, ◌∙◌}
use Rattle.arrays.proofs.paste.Parts.{pasted_same}
use Rattle.ascii.proofs.Room.{front_none, front-put}
use Rattle.ascii.specs.Line.{number_text}
use Rattle.model.specs.Listing.{refused_word}
use Rattle.directions.specs.Directions.{indication_text}
use Rattle.directions.proofs.indication_line.Goals as goal

pub returns-then-out-lt-LINE_ROOM : goal.returns-then-out-lt-LINE_ROOM
returns-then-out-lt-LINE_ROOM c = front_none 128 _ _ c.if-out-lt-LINE_ROOM.true

pub returns-in-Err : goal.returns-in-Err
unfolding indication_text
returns-in-Err c = front-put 128 _ _ _ _ c.if-out-lt-LINE_ROOM.false
    (pasted_same (ap (number_text refused_word) c.from.ensures ∙ sym (ap indication_text c.in-Err.is)) c.number_line.ensures)

pub returns-in-Ok : goal.returns-in-Ok
unfolding indication_text
returns-in-Ok c = front-put 128 _ _ _ _ c.if-out-lt-LINE_ROOM.false
    (pasted_same (sym (ap indication_text c.in-Ok.is)) c.arrow_line.ensures)
