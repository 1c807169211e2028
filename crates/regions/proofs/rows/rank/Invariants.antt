-- `regions::rows::rank` meets its contract. The invariant: the rows passed are below y.
use Prim.Native.Nat.{ℕ, ◌<◌}
use lib.ListN.{get_or}
use Rattle.regions.proofs.rows.rank.Given as goal

abbrev pub invariant-loop-r : goal.invariant-loop-r
invariant-loop-r l = (q : ℕ) → q < l.r → get_or l.rows q 0 < l.y
