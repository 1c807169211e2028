-- `deckplan::text::plan_file` meets its contract: the number that the planner returned says whether it refused the file.
use Rattle.arrays.proofs.paste.Parts.{front-within}
use Rattle.model.specs.File.{read_file, longest}
use Rattle.model.proofs.FileAnswer.{read_possible}
use Rattle.listing.proofs.ForFile.{prints_none}
use Rattle.deckplan.specs.Plan.{planned_file}
use Rattle.deckplan.proofs.text.Planned.{refusal_printed, number_printed}
use Rattle.deckplan.proofs.text.plan_file.Goals as goal

pub returns-then-out-lt-LONGEST : goal.returns-then-out-lt-LONGEST
returns-then-out-lt-LONGEST c =
    let p = prints_none longest planned_file (read_file c.args.file.now) _ c.if-out-lt-LONGEST.true in
    record { prints = p; prefix_len = front-within p.put }

pub returns-then-n-lt-SHORTEST : goal.returns-then-n-lt-SHORTEST
returns-then-n-lt-SHORTEST c =
    let b = c.args.file.now in
    let plan = c.planner_plan-n.ensures in
    let p = refusal_printed _ c.if-out-lt-LONGEST.false (read_file b) (read_possible b) _ _ plan.value plan.out_after c.if-n-lt-SHORTEST.true
    c.list_refusal.ensures in
    record { prints = p; prefix_len = front-within p.put }

pub returns : goal.returns
returns c =
    let b = c.args.file.now in
    let plan = c.planner_plan-n.ensures in
    let p = number_printed _ c.if-out-lt-LONGEST.false (read_file b) (read_possible b) _ _ plan.value plan.out_after c.if-n-lt-SHORTEST.false in
    record { prints = p; prefix_len = front-within p.put }
