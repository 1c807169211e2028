-- `replay::replay_calls` meets its contract: a refusal of the file, or the deck after the calls written.
use mathlib.Core.Path.{ap, ◌∙◌}
use Rattle.deckfile.specs.Answer.{written_number}
use Rattle.deckfile.proofs.answer.Entry.{read-refused, answer-deck}
use Rattle.replay.specs.Calls.{start_of, calls_of}
use Rattle.replay.proofs.FirstDeck.{start_possible}
use Rattle.replay.proofs.replay_calls.Goals as goal

pub returns-in-Ok : goal.returns-in-Ok
returns-in-Ok c =
    let stored = answer-deck (start_of _) (start_possible _) (calls_of _) _ c.in-Ok.ensures c.call_all.ensures
    (c.number_of.ensures ∙ ap written_number c.write.ensures.value) c.write.ensures.out_after in
    record { value = stored.0; out_after = stored.1 }

pub returns-in-Err : goal.returns-in-Err
returns-in-Err c =
    let refused = read-refused (start_of _) (calls_of _) _ c.in-Err.ensures in
    record { value = c.from.ensures ∙ refused.0; out_after = refused.1 }
