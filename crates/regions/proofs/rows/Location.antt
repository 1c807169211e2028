-- One row more, and one point more: what stood in its place before stays, and what is set is what was asked for.
use mathlib.Core.Path.{◌≡◌, ◌∙◌}
use mathlib.Core.List.{List}
use Prim.Native.Nat.{ℕ, ◌+◌, ◌*◌, ◌≤◌, ◌<◌}
use native.Mathlib.Omega.{arith}
use borrow.Author.Count.{below_more}
use lib.ListN.{length, get_or, set}
use lib.Seq.{get_or-set_same, get_or-set_other}
use Rattle.regions.specs.Rays.{places}
use Rattle.regions.specs.Rows.{Ranked, scaled_gap, RowGaps, Located}

pub row_more : {rows : List ℕ} {y start : ℕ} {old new : List ℕ} {r v : ℕ} → RowGaps rows r y start old new → start + r < length new
    → v ≡ scaled_gap y (get_or rows r 0) → RowGaps rows (r + 1) y start old (set new (start + r) v)
row_more {start = start} {new = new} {r = r} {v = v} q h e =
    record {
      here = below_more _ r (λ i l. get_or-set_other new (start + r) (start + i) v 0 (omega arith) ∙ q.here i l) (get_or-set_same new (start + r) v 0 h ∙ e);
      rest = λ i l. get_or-set_other new (start + r) i v 0 (omega arith) ∙ q.rest i l;
    }

pub point_more : {ys : List ℕ} {j : ℕ} {rows : List ℕ} {count : ℕ} {gaps ranks gaps' : List ℕ} {k : ℕ} → Located ys j rows count gaps ranks → count ≤ places
    → j < length ranks → RowGaps rows count (get_or ys j 0) (j * places) gaps gaps' → Ranked rows count (get_or ys j 0) k
    → Located ys (j + 1) rows count gaps' (set ranks j k)
point_more {j = j} {ranks = ranks} {k = k} q few h g ranked =
    record {
      distances = below_more _ j (λ i l r m. g.rest (i * places + r) (omega arith) ∙ q.distances i l r m) g.here;
      ranked = below_more _ j (λ i l. rw (get_or-set_other ranks j i k 0 (omega arith)) (q.ranked i l)) (rw (get_or-set_same ranks j k 0 h) ranked);
    }
