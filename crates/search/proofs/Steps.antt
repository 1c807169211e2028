-- The loops over the rows of a column and over the columns: what is left to try, from the best so far, gives what the whole gives.
use mathlib.Core.Path.{◌≡◌, ◌∙◌}
use mathlib.Core.List.{List, ◌∷◌, map}
use Prim.Native.Nat.{ℕ, ◌+◌, ◌≤◌, ◌<◌}
use lib.ListN.{length, drop, get_or, drop_of_length-le}
use lib.Seq.{drop-cons}
use native.Mathlib.Numerals.{add-one}
use Rattle.plane.specs.Point.{Point}
use Rattle.plane.specs.Coordinate.{coordinate}
use Rattle.model.specs.Round.{column, crossings}
use Rattle.score.specs.Gain.{table_at, gain, rays_at}
use Rattle.score.specs.Prepared.{Prepared}
use Rattle.search.specs.declared.found.Greatest.{Greatest}
use Rattle.search.specs.Search.{Spares, greater, try_all, points_of}
use Rattle.search.proofs.Scan.{try_append, tried_is}

next : (l : List ℕ) (i : ℕ) → i < length l → drop i l ≡ get_or l i 0 ∷ drop (i + 1) l
next l i h = rw add-one (drop-cons l i 0 h)

-- The column x of the rows from `row` on is left to try.
pub record InColumn (table : List ℕ) (x : ℕ) (rows least : List ℕ) (known top : Greatest) (row : ℕ) : Type 0 where
  pub rest : (ps : List Point) → Spares table x rows least ps
      → try_all ps top (column (coordinate x) (map coordinate (drop row rows)))
      ≡ try_all ps known (column (coordinate x) (map coordinate rows))

module _ {table : List ℕ} {x : ℕ} {rows least : List ℕ} {known top : Greatest} {row : ℕ}
    (r : InColumn table x rows least known top row) where
  pub column_more : row < length rows → {g : ℕ} → g ≡ gain (table_at table) (rays_at least row)
      → {after : Greatest} → after ≡ greater top g x (get_or rows row 0) → InColumn table x rows least known after (row + 1)
  unfolding try_all column
  column_more h {g} eg e =
      record {
        rest = λ ps s. rw (e, tried_is ps top g x (get_or rows row 0) (eg ∙ s row h)) (rw (next rows row h) at (r.rest ps s));
      }

  pub column_end : length rows ≤ row → (ps : List Point) → Spares table x rows least ps
      → top ≡ try_all ps known (column (coordinate x) (map coordinate rows))
  unfolding try_all column
  column_end h ps s = rw (drop_of_length-le rows h) at (r.rest ps s)

-- The columns from `at` on are left to try.
pub record InColumns (xs table gaps ranks columns rows : List ℕ) (known top : Greatest) (at : ℕ) : Type 0 where
  pub rest : (ys : List ℕ) → Prepared xs ys table gaps ranks rows
      → try_all (points_of xs ys) top (crossings (map coordinate (drop at columns)) (map coordinate rows))
      ≡ try_all (points_of xs ys) known (crossings (map coordinate columns) (map coordinate rows))

module _ {xs table gaps ranks columns rows : List ℕ} {known top : Greatest} {at : ℕ}
    (r : InColumns xs table gaps ranks columns rows known top at) where
  pub columns_more : at < length columns → {after : Greatest}
      → ((ys : List ℕ) → Prepared xs ys table gaps ranks rows
      → after ≡ try_all (points_of xs ys) top (column (coordinate (get_or columns at 0)) (map coordinate rows)))
      → InColumns xs table gaps ranks columns rows known after (at + 1)
  unfolding crossings
  columns_more h e =
      record {
        rest = λ ys p.
            rw (
              e ys p,
              ← try_append (points_of xs ys) top (column (coordinate (get_or columns at 0)) (map coordinate rows))
                  (crossings (map coordinate (drop (at + 1) columns)) (map coordinate rows)),
            )
            (rw (next columns at h) at (r.rest ys p));
      }

  pub columns_end : length columns ≤ at → (ys : List ℕ) → Prepared xs ys table gaps ranks rows
      → top ≡ try_all (points_of xs ys) known (crossings (map coordinate columns) (map coordinate rows))
  unfolding try_all crossings
  columns_end h ys p = rw (drop_of_length-le columns h) at (r.rest ys p)
