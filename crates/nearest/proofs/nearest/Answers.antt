-- `nearest::nearest` meets its contract. The loop's invariant: the table holds the least keys to the points passed.
use mathlib.Core.Path.{ap, ◌∙◌}
use Prim.Native.Nat.{ℕ}
use native.Mathlib.Omega.{arith}
use borrow.Author.Rules.{rules}
use lib.ListN.{length}
use Rattle.plane.specs.Stored.{point_at}
use Rattle.keys.specs.Held.{held}
use Rattle.keys.specs.Keys.{key, least_key, octant_keys}
use Rattle.arrays.specs.Tab.{tab}
use Rattle.nearest.proofs.OctantKeys.{point_in-octant, point_in_none}
use Rattle.nearest.proofs.nearest.Goals as goal
use Rattle.nearest.proofs.nearest.Goals.{then-o-lt-OCTANTS, else-o-lt-OCTANTS}

pub loop-j-init : goal.loop-j-init
unfolding tab least_key
loop-j-init c = search rules

pub loop-j-preserved : goal.loop-j-preserved
loop-j-preserved c = let a = c.args in
    let h = held a.xs.now a.ys.now in
    let o = c.from-o in
    let is = c.from-o.ensures ∙ c.octant_between.ensures.value in
    elim c.if-o-lt-OCTANTS.branch [
      | then-o-lt-OCTANTS w ↦
          point_in-octant h (point_at a.x a.y) (length a.xs.now) c.loop-j.j o.result is c.loop-j.best c.if-o-lt-OCTANTS.best
          c.loop-j.invariant
          c.key-k.result w.min.result (search rules)
          (c.key-k.ensures ∙ ap (λ (d : ℕ). key d c.loop-j.j (length a.xs.now)) c.distance.ensures.value) w.min.ensures w.best-is
      | else-o-lt-OCTANTS w ↦
          point_in_none h (point_at a.x a.y) (length a.xs.now) c.loop-j.j o.result is c.loop-j.best c.if-o-lt-OCTANTS.best
          c.loop-j.invariant
          (search rules) w.best-is
    ]

pub returns : goal.returns
unfolding octant_keys
returns c = let a = c.args in
    c.loop-j.invariant
    ∙ ap (λ (j : ℕ). tab (λ (o : ℕ). least_key (held a.xs.now a.ys.now) (point_at a.x a.y) (length a.xs.now) o j) 8) (omega arith)
