-- The length with one point more: the only row is that of the point.
use mathlib.Core.Path.{◌≡◌}
use mathlib.Core.List.{List, [], ◌∷◌}
use Prim.Native.Nat.{ℕ, zero, suc, ◌+◌, ◌*◌, ◌≤◌, ◌<◌}
use native.Mathlib.Omega.{arith}
use lib.ListN.{length, get_or}
use Rattle.tree.specs.Build.{length_with}
use Rattle.tree.proofs.Size.{Words}
use Rattle.regions.specs.Rays.{places, table_size, far}
use Rattle.regions.specs.Rows.{RowsGiven, Located}
use Rattle.regions.specs.Nearest.{AtRows}
use Rattle.score.specs.Gain.{table_at, gain, rays_at}
use Rattle.score.specs.Prepared.{Prepared}
use Rattle.score.specs.Length.{Measured}
use Rattle.score.proofs.Geometry.{gain_is}
use Rattle.score.proofs.TreeKeys.{tree-short}

pub one_row : (y : ℕ) → RowsGiven (y ∷ [])
one_row y = record { few = omega arith; rises = λ r s l k. absurd (omega arith) }

module _ {xs ys table : List ℕ} {whole : ℕ} (p : Measured xs ys table whole) (wx : Words xs) (wy : Words ys) where
  pub point_prepared : {gaps ranks : List ℕ} {y : ℕ} → 0 < length xs → y < 65536 → length gaps ≡ table_size → length xs ≤ length ranks
      → Located ys (length ys) (y ∷ []) 1 gaps ranks
      → Prepared xs ys table gaps ranks (y ∷ [])
  point_prepared {y = y} some h size room located =
      record {
        some = some;
        few = p.few;
        in_ranks = room;
        size_table = p.size;
        size_gaps = size;
        stored_xs = wx;
        stored_ys = wy;
        stored_rows = stored;
        rises = p.rises;
        bottlenecks = p.bottlenecks;
        given = one_row y;
        located = rw (← p.same) at located;
      }
    where
      stored : (i : ℕ) → get_or (y ∷ []) i 0 < 65536
      stored zero = h
      stored (suc i) = omega arith

module _ {xs ys table : List ℕ} {whole : ℕ} (p : Measured xs ys table whole) {gaps ranks : List ℕ} {y : ℕ}
    (q : Prepared xs ys table gaps ranks (y ∷ [])) where
  pub whole-short : whole ≤ places * far
  whole-short = omega (arith, tree-short xs ys (length xs) p.few q.stored_xs q.stored_ys p.rises)

  pub length_is_lem : {x : ℕ} {least : List ℕ} → x < 65536 → AtRows xs gaps ranks x (length xs) 1 least
      → length_with xs ys (length xs) x y + gain (table_at table) (rays_at least 0) ≡ far + whole
  length_is_lem h near = omega (arith, gain_is q {r = 0} (omega arith) h near)
