-- `replay::start` meets its contract: no bytes, or a file.
use mathlib.Core.Path.{sym, ap, ◌∙◌}
use Rattle.std.proofs.lemmas.Result.{err_from_is_err_and}
use Rattle.deckfile.specs.Reading.{accepted_deck, read_outcome}
use Rattle.replay.proofs.FirstDeck.{start_none, start-file}
use Rattle.replay.proofs.start.Goals as goal

pub returns-then-is_empty : goal.returns-then-is_empty
unfolding read_outcome
returns-then-is_empty c = ap read_outcome (start_none _ c.if-is_empty.ensures) ∙ ap accepted_deck (sym c.empty.ensures)

pub returns-in_err-working : goal.returns-in_err-working
returns-in_err-working c =
    let p = err_from_is_err_and c.from_residual.result c.from_residual.ensures.1 in
    rw (p.1, p.2) (start-file _ c.if-is_empty.ensures ∙ c.in_err-working.ensures)

pub returns : goal.returns
unfolding read_outcome
returns c = ap read_outcome (start-file _ c.if-is_empty.ensures ∙ c.in_ok-working.ensures) ∙ ap accepted_deck (sym c.from.ensures)
