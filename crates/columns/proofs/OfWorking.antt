-- The column of a working form: its free rows are the y of its candidates, and they rise; no row of it is held exactly if no point has its x.
use mathlib.Core.Path.{◌≡◌, refl, sym, ap, ap₂, ◌∙◌, subst, subst⁻¹}
use mathlib.Core.Logic.{⊎_elim}
use mathlib.Core.Bool.{Bool, true, false}
use mathlib.Core.List.{List, map, Memᴰ}
use Prim.Native.Nat.{ℕ, ◌≤◌, ◌<◌}
use native.Mathlib.Omega.{arith}
use lib.Dec.{T, T_not, not_T, ltb}
use lib.IntN.{ℤ}
use lib.ListN.{length, take}
use lib.Seq.{length-take-le}
use lib.Signed.{lt_z}
use Rattle.arrays.specs.Set.{has, passing, set_of}
use Rattle.arrays.specs.Paste.{Pasted}
use Rattle.arrays.specs.Order.{Sorted}
use Rattle.arrays.proofs.Test.{of_true, and_parts, and_both}
use Rattle.arrays.proofs.Set.{has_in, set_of_in, passing-sorted, passing-most, passing_fewer, passing_all}
use Rattle.arrays.proofs.paste.Parts.{front-take, front-count}
use Rattle.plane.specs.Point.{Point, lower, coordinate_in_range}
use Rattle.plane.specs.Coordinate.{coordinate, stored_limit, stored_of}
use Rattle.plane.specs.Code.{packed, code}
use Rattle.plane.specs.Stored.{point_at}
use Rattle.plane.proofs.Order.{lower-order, whole-order}
use Rattle.plane.proofs.Stored.{stored-coordinate, stored-bound, coordinate_range}
use Rattle.plane.proofs.codes.Points.{code_is, point-code}
use Rattle.model.specs.State.{points, Placed}
use Rattle.model.specs.Round.{xs_of, ys_of, column, not_held}
use Rattle.model.proofs.Candidate.{map_in}
use Rattle.model.proofs.Prune.{points_in_lem}
use Rattle.keys.specs.Held.{held}
use Rattle.regions.specs.Rows.{RowsGiven}
use Rattle.search.specs.declared.found.Greatest.{Greatest}
use Rattle.search.specs.Search.{points_of, try_all, nothing_found}
use Rattle.crossing.proofs.Candidates.{lines_are}
use Rattle.crossing.proofs.First.{first_points}
use Rattle.crossing.proofs.prepare.Values.{lines-few, lines-sorted, rows-rise}
use Rattle.working.specs.declared.Working.{Working}
use Rattle.working.specs.InOrder.{state_of}
use Rattle.working.proofs.InOrder.{arranged-placed, held_has}
use Rattle.columns.specs.Column.{candidates_at}
use Rattle.columns.specs.Found.{is_free}
use Rattle.columns.proofs.InColumn.{column_is, no_line}
use Rattle.columns.proofs.Rows.{Same, free_are}

abbrev Less : ℕ → ℕ → Type 0
Less a b = T (ltb a b)

module _ (w : Working) (sx : length w.xs ≡ 128) (sy : length w.ys ≡ 128) (x : ℕ) (small : x ≤ stored_limit) {rows : List ℕ}
    (lines : rows ≡ set_of ltb (take w.npoints w.ys)) where
  abbrev ps : List Point
  ps = points (state_of w)

  abbrev codes : List ℕ
  codes = take w.npoints w.codes

  placed : Placed (state_of w)
  placed = arranged-placed w.points w.in_order.arranged

  few : w.npoints ≤ 127
  few = omega (arith, w.in_order.few)

  in_xs : length (take w.npoints w.xs) ≡ w.npoints
  in_xs = length-take-le w.npoints w.xs (omega (arith, few))

  in_ys : length (take w.npoints w.ys) ≡ w.npoints
  in_ys = length-take-le w.npoints w.ys (omega (arith, few))

  points_are : points_of (take w.npoints w.xs) (take w.npoints w.ys) ≡ ps
  points_are = first_points w.xs w.ys w.npoints (omega (arith, few)) (omega (arith, few)) ∙ w.in_order.points

  rows_are : map coordinate rows ≡ ys_of ps
  rows_are =
      lines_are (held (take w.npoints w.xs) (take w.npoints w.ys)) (λ (q : Point). q.y) (take w.npoints w.ys) (λ i. refl) (length (take w.npoints w.xs))
      (in_xs ∙ sym in_ys) lines
      ∙ ap (λ (l : List Point). ys_of l) points_are

  row_most : length rows ≤ w.npoints
  row_most = omega (arith, lines-few (take w.npoints w.ys) lines, in_ys)

  -- A row is the y of a point held, so it is in range; and the y of each point held is a row.
  row_small : (y : ℕ) → Memᴰ y rows → y ≤ stored_limit
  row_small y i =
      let there = subst (λ (l : List ℤ). Memᴰ (coordinate y) l) rows_are ((map_in coordinate rows (coordinate y)).1 (y, i, refl)) in
      let r = (map_in (λ (q : Point). q.y) ps (coordinate y)).0 ((set_of_in lt_z whole-order (map (λ (q : Point). q.y) ps) (coordinate y)).0 there) in
      let q = r.0 in
      let range = ⊎_elim (placed.pins_range q) (placed.steiner_range q) ((points_in_lem (state_of w) q).0 r.1) in
      let high = (and_parts (coordinate_in_range q.x) (coordinate_in_range q.y) range).1 in
      omega (arith, stored-coordinate y, ap stored_of r.2, stored-bound q.y high)

  row_of : (q : Point) → Memᴰ q ps → (y : ℕ) × Memᴰ y rows × (q.y ≡ coordinate y)
  row_of q i =
      (map_in coordinate rows q.y).0
      (subst⁻¹ (λ (l : List ℤ). Memᴰ q.y l) rows_are
      ((set_of_in lt_z whole-order (map (λ (r : Point). r.y) ps) q.y).1 ((map_in (λ (r : Point). r.y) ps q.y).1 (q, i, refl))))

  same : Same codes ps x rows
  unfolding code
  same y i =
      let q : Point = point_at x y in
      let range = and_both (coordinate_in_range q.x) (coordinate_in_range q.y) (coordinate_range x small) (coordinate_range y (row_small y i)) in
      let e : code q ≡ packed x y = ap₂ packed (stored-coordinate x) (stored-coordinate y) in
      ap (λ (k : ℕ). has ltb k codes) (sym e) ∙ held_has w (code q) (code_is q range) ∙ ap (λ (z : Point). has lower z ps) (point-code q range)

  module _ {before free : List ℕ} {kept : ℕ} (put : Pasted (passing (is_free codes x) rows) before free 0 kept) where
    pub free-given : RowsGiven (take kept free)
    free-given =
        rows-rise (take kept free) (omega (arith, ap length (front-take put), passing-most (is_free codes x) rows, row_most, few))
        (subst⁻¹ (Sorted Less) (front-take put) (passing-sorted Less (is_free codes x) rows (lines-sorted (take w.npoints w.ys) lines)))

    -- No row is held: no point has this x.
    pub none_found : kept ≡ length rows → nothing_found ≡ try_all ps nothing_found (candidates_at (coordinate x) ps)
    unfolding try_all
    none_found e = rw (no_line (coordinate x) ps none) refl
      where
        none : (q : Point) → Memᴰ q ps → ¬ (q.x ≡ coordinate x)
        none q i ex =
            let r = row_of q i in
            let here : q ≡ point_at x r.0 = λ k. record { x = ex k; y = r.2 k } in
            let held = subst⁻¹ T (same r.0 r.1) ((has_in lower lower-order (point_at x r.0) ps).1 (subst (λ (z : Point). Memᴰ z ps) here i)) in
            absurd (omega (
              arith,
              passing_fewer (is_free codes x) rows r.0 r.1 (λ t. T_not (has ltb (packed x r.0) codes) t held),
              front-count put,
            ))

    module _ (held : ¬ (kept ≡ length rows)) where
      pub some_point : 0 < length (take w.npoints w.xs)
      some_point = omega (arith, in_xs, front-count put, passing-most (is_free codes x) rows, row_most)

      -- Some row is held, so the column is a line, and the free rows are those of its candidates.
      line : Memᴰ (coordinate x) (xs_of ps)
      line = go (has lt_z (coordinate x) (xs_of ps)) refl
        where
          go : (b : Bool) → has lt_z (coordinate x) (xs_of ps) ≡ b → Memᴰ (coordinate x) (xs_of ps)
          go true e = (has_in lt_z whole-order (coordinate x) (xs_of ps)).0 (of_true e)
          go false e =
              absurd (held (front-count put ∙ ap length (passing_all (is_free codes x) rows every)))
            where
              every : (y : ℕ) → Memᴰ y rows → T (is_free codes x y)
              every y i =
                  not_T (has ltb (packed x y) codes) (λ t.
                  let m = (has_in lower lower-order (point_at x y) ps).0 (subst T (same y i) t) in
                  subst T e ((has_in lt_z whole-order (coordinate x) (xs_of ps)).1
                  ((set_of_in lt_z whole-order (map (λ (r : Point). r.x) ps) (coordinate x)).1
                  ((map_in (λ (r : Point). r.x) ps (coordinate x)).1 (point_at x y, m, refl)))))

      pub greatest_found : {r : Greatest}
          → r ≡ try_all (points_of (take w.npoints w.xs) (take w.npoints w.ys)) nothing_found (column (coordinate x) (map coordinate (take kept free)))
          → r ≡ try_all ps nothing_found (candidates_at (coordinate x) ps)
      greatest_found e =
          e ∙ ap₂ (λ (l m : List Point). try_all l nothing_found m) points_are
          (ap (λ (l : List ℕ). column (coordinate x) (map coordinate l)) (front-take put)
          ∙ free_are codes ps x rows same
          ∙ ap (λ (l : List ℤ). not_held ps (column (coordinate x) l)) rows_are
          ∙ sym (column_is (coordinate x) ps line))
