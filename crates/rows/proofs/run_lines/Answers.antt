-- `rows::run_lines` meets its contract: one edge more adds its line.
use native.Mathlib.Omega.{arith}
use Rattle.model.specs.Question.{listed}
use Rattle.model.proofs.FileSize.{edges_few}
use Rattle.arrays.proofs.paste.Lines.{first_none, first_more, first_end}
use Rattle.arrays.proofs.paste.Parts.{pasted_same}
use Rattle.working.specs.InOrder.{state_of}
use Rattle.edges.proofs.Numbers.{edge_count_lem, listed-length}
use Rattle.rows.proofs.Lines.{run_text, run_none, run_more, run_all}
use Rattle.rows.proofs.run_lines.Goals as goal

pub loop-i-init : goal.loop-i-init
loop-i-init c =
    let l = listed (state_of c.args.w) in
    first_none (run_text c.args.tail l) 53 _ _ _ (run_none _ l)

pub run_line-next-requires : goal.run_line-next-requires
run_line-next-requires c = omega (arith, c.loop-i.invariant.most, edges_few _ c.requires.valid, edge_count_lem c.args.w)

pub loop-i-preserved : goal.loop-i-preserved
loop-i-preserved c =
    let s = state_of c.args.w in
    first_more (run_text c.args.tail (listed s)) 53 _ _ _ _ _ _ _ _ _ c.loop-i.invariant c.loop-i-test.true (run_more _ s _ _ c.edge_at.ensures)
    (omega (arith, c.loop-i.invariant.most, edges_few _ c.requires.valid, edge_count_lem c.args.w)) c.run_line-next.ensures.pasted
    c.run_line-next.ensures.upper_bound c.run_line-next.auto.out

pub returns : goal.returns
returns c =
    let w = c.args.w in
    let all = first_end (run_text c.args.tail (listed (state_of w))) 53 _ _ _ _ _ _ c.loop-i.invariant c.loop-i-test.false in
    pasted_same (run_all _ (state_of w) w.nkeys (omega (arith, listed-length w))) all.0
