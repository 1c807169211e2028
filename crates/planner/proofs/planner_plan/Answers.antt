-- `planner::planner_plan` meets its contract: a refusal of the file, or its deck in working form run to the end and written.
-- (must-fail/deck_as_read.edit changes a line of it.)
use mathlib.Core.Path.{◌∙◌}
use Rattle.model.specs.Call.{contents_after}
use Rattle.model.specs.File.{read_file}
use Rattle.model.proofs.FileAnswer.{read_possible}
use Rattle.deckfile.proofs.answer.Entry.{taken_valid, read-refused, changed_valid, answer-stored}
use Rattle.planner.specs.Entry.{to_end}
use Rattle.planner.proofs.planner_plan.Goals as goal

pub run_to_end-requires : goal.run_to_end-requires
run_to_end-requires c = record { valid_contents = taken_valid (read_file _) (read_possible _) c.in-Ok.ensures }

pub write_working-requires : goal.write_working-requires
write_working-requires c =
    changed_valid (taken_valid (read_file _) (read_possible _) c.in-Ok.ensures) c.run_to_end.ensures

pub returns-in-Ok : goal.returns-in-Ok
unfolding contents_after
returns-in-Ok c =
    let stored = answer-stored (read_file _) to_end _ c.in-Ok.ensures c.run_to_end.ensures.next c.number_of.ensures
    (c.write_working.ensures.value, c.write_working.ensures.out_after) in
    record { value = stored.0; out_after = stored.1 }

pub returns-in-Err : goal.returns-in-Err
returns-in-Err c =
    let refused = read-refused (read_file _) to_end _ c.in-Err.ensures in
    record { value = c.from.ensures ∙ refused.0; out_after = refused.1 }
