-- `measures::measure` meets its contract: an arranged state's counts are the lengths of its lists, and its keys are as many as its edges.
use mathlib.Core.Path.{sym}
use Rattle.points.proofs.Coded.{pins-count, steiner_count_lem}
use Rattle.edges.proofs.Numbers.{edge_count_lem}
use Rattle.measures.proofs.measure.Goals as goal

pub length_of-requires : goal.length_of-requires
length_of-requires c = record { tail_le_longest_tail = c.requires.tailed }

pub returns : goal.returns
returns c = let p = c.args.d.form.in_order in
    λ i. record {
      pins = sym (pins-count _ p.arranged) i;
      steiner = sym (steiner_count_lem _ p.arranged) i;
      edges = edge_count_lem c.args.d.form i;
      length = c.length_of.ensures i;
    }
