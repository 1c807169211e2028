-- `deckfile::read_working` meets its contract: the deck that was taken, or an empty one with the number.
use mathlib.Core.Path.{sym, ap, ◌∙◌}
use Rattle.deckfile.specs.ReadWorking.{contents_read, reply_read}
use Rattle.deckfile.proofs.read_working.Goals as goal

pub returns-in-Ok : goal.returns-in-Ok
unfolding contents_read reply_read
returns-in-Ok c = let e = sym c.in-Ok.ensures in
    record { in_order = c.in-Ok.working.form.in_order; contents = ap contents_read e; reply = ap reply_read e }

pub returns-in-Err : goal.returns-in-Err
unfolding contents_read reply_read
returns-in-Err c = let e = sym c.in-Err.ensures in
    record { in_order = c.empty.result.form.in_order; contents = c.empty.ensures ∙ ap contents_read e; reply = ap reply_read e }
