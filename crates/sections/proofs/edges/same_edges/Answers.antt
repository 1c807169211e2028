-- `sections::edges::same_edges` meets its contract. The invariant: the bytes of the edges passed are the same.
use mathlib.Core.Path.{◌∙◌}
use Rattle.sections.proofs.edges.Bytes.{edges_none, edges_more, edges_fail_first, edges_fail_second, edges_end}
use native.Mathlib.Omega.{arith}
use Rattle.sections.proofs.edges.same_edges.Goals as goal
use Rattle.sections.proofs.edges.same_edges.Goals.{then-from-edge-via-then-from-edge, then-from-edge-via-else-from-edge+then-from-edge-2}

pub loop-i-init : goal.loop-i-init
loop-i-init c = edges_none _ _ c.requires

pub returns-then-from-edge : goal.returns-then-from-edge
returns-then-from-edge c =
    elim c.then-from-edge.branch [
      | then-from-edge-via-then-from-edge w ↦
          edges_fail_first _ _ c.requires _ c.loop-i.invariant c.loop-i-test.true (λ e. w.if-from-edge.true (c.from.ensures ∙ e))
      | then-from-edge-via-else-from-edge+then-from-edge-2 w ↦
          edges_fail_second _ _ c.requires _ c.loop-i.invariant c.loop-i-test.true (omega (arith, c.from.ensures, w.if-from-edge.false))
          (λ e. w.if-from-edge-2.true (w.from-else-from-edge.ensures ∙ e))
    ]

pub loop-i-preserved : goal.loop-i-preserved
loop-i-preserved c =
    edges_more _ _ c.requires _ c.loop-i.invariant c.loop-i-test.true (omega (arith, c.from.ensures, c.if-from-edge.false))
    (omega (arith, c.from-else-from-edge.ensures, c.if-from-edge-2.false))

pub returns : goal.returns
returns c = edges_end _ _ c.requires c.loop-i.invariant c.loop-i-test.false
