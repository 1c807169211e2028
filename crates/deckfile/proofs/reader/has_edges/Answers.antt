-- `deckfile::reader::has_edges` meets its contract: as many edges as the tree has, and the same bytes.
use mathlib.Core.Path.{ap, ◌∙◌}
use Prim.Native.Nat.{ℕ}
use lib.ListN.{take, drop}
use Rattle.arrays.specs.Same.{same_list}
use Rattle.sections.specs.Bytes.{edge_bytes}
use Rattle.deckfile.proofs.reader.LastCheck.{slice_long, third_within, edges_other, edges_same}
use borrow.Author.Rules.{rules}
use Rattle.deckfile.proofs.reader.has_edges.Goals as goal

pub returns-then-n-w : goal.returns-then-n-w
returns-then-n-w c = edges_other c.args.file.now.bytes.now c.args.file.now.sections c.args.w c.requires _ c.size-n.ensures.0 c.if-n-w.true

pub slice_bounds-same_edges-end : goal.slice_bounds-same_edges-end
slice_bounds-same_edges-end c =
    let h = third_within c.args.file.now.bytes.now c.args.file.now.sections c.args.w c.requires _ _ c.size-n.ensures.0 c.offset-at.ensures.0 in
    search rules

pub returns : goal.returns
returns c = c.same_edges.ensures
    ∙ ap (λ (z : ℕ). same_list (take z (drop c.offset-at.result c.args.file.now.bytes.now)) (edge_bytes (take c.args.w.nkeys c.edge_numbers-ends.result)))
    (slice_long c.offset-at.result c.size-n.result)
    ∙ edges_same c.args.file.now.bytes.now c.args.file.now.sections c.args.w c.requires _ _ _ c.size-n.ensures.0 c.offset-at.ensures.0
    c.edge_numbers-ends.ensures
