-- `picture::put_runs` meets its contract: one run more adds its path.
use native.Mathlib.Omega.{arith}
use Rattle.arrays.proofs.paste.Lines.{first_none, first_more, first_end, each_none}
use Rattle.arrays.proofs.paste.Parts.{pasted_same}
use Rattle.model.specs.Question.{listed}
use Rattle.model.proofs.FileSize.{edges_few}
use Rattle.working.specs.InOrder.{state_of}
use Rattle.edges.proofs.Numbers.{edge_count_lem, listed-length}
use Rattle.frame.specs.Stored.{box_in}
use Rattle.drawing.specs.Rooms.{run_room}
use Rattle.picture.specs.Picture.{edge_text}
use Rattle.picture.proofs.Texts.{runs_to, run_more, run_all}
use Rattle.picture.proofs.put_runs.Goals as goal

pub loop-i-init : goal.loop-i-init
loop-i-init c =
    let s = state_of c.args.w in
    let b = box_in c.args.f in
    first_none (runs_to c.args.tail b s) run_room _ _ _ (each_none (edge_text c.args.tail b) (listed s))

pub put_run-next-requires : goal.put_run-next-requires
put_run-next-requires c = omega (arith, c.loop-i.invariant.most, edges_few _ c.requires.valid, edge_count_lem c.args.w)

pub loop-i-preserved : goal.loop-i-preserved
loop-i-preserved c =
    let s = state_of c.args.w in
    let b = box_in c.args.f in
    first_more (runs_to c.args.tail b s) run_room _ _ _ _ _ _ _ _ _ c.loop-i.invariant c.loop-i-test.true (run_more _ b s _ _ c.edge_at-e.ensures)
    (omega (arith, c.loop-i.invariant.most, edges_few _ c.requires.valid, edge_count_lem c.args.w)) c.put_run-next.ensures.pasted
    c.put_run-next.ensures.upper_bound c.put_run-next.auto.out

pub returns : goal.returns
returns c =
    let w = c.args.w in
    let s = state_of w in
    let b = box_in c.args.f in
    let all = first_end (runs_to c.args.tail b s) run_room _ _ _ _ _ _ c.loop-i.invariant c.loop-i-test.false in
    record {
      pasted = pasted_same (run_all _ b s w.nkeys (omega (arith, listed-length w))) all.0;
      upper_bound = omega (arith, all.1, edges_few _ c.requires.valid, edge_count_lem c.args.w);
    }
