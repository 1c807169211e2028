-- `regions::rows::row_gaps` meets its contract. The invariant: the distances to the rows passed stand in their places.
use mathlib.Core.Path.{ap, ◌∙◌}
use Prim.Native.Nat.{ℕ, ◌*◌}
use native.Mathlib.Omega.{arith}
use Rattle.regions.proofs.rows.Location.{row_more}
use Rattle.regions.proofs.rows.row_gaps.Goals as goal

pub loop-r-preserved : goal.loop-r-preserved
loop-r-preserved c = row_more c.loop-r.invariant (omega arith) (ap (λ (z : ℕ). z * 128) (c.from.ensures ∙ c.apart.ensures))
