-- The free rows of a column: a row is left out exactly if a point is held there, so the rows left are the y of the crossings that are not held.
use mathlib.Core.Path.{◌≡◌, refl, sym, ap, ◌∙◌, subst}
use mathlib.Core.Bool.{Bool, true, false}
use mathlib.Core.List.Memᴰ.{head}
use mathlib.Core.List.Memᴰ.{tail as later}
use mathlib.Core.List.{List, [], ◌∷◌, map, Memᴰ}
use Prim.Native.Nat.{ℕ, ◌+◌, ◌<◌}
use native.Mathlib.Omega.{arith}
use lib.Dec.{ltb}
use lib.ListN.{length, set}
use Rattle.arrays.specs.Set.{has, passing}
use Rattle.arrays.specs.Paste.{Pasted}
use Rattle.arrays.proofs.paste.Parts.{pasted_none, pasted_one, pasted_same}
use Rattle.arrays.proofs.paste.Lines.{each_to, each_all, each-passing}
use Rattle.plane.specs.Point.{Point, lower}
use Rattle.plane.specs.Coordinate.{coordinate}
use Rattle.plane.specs.Code.{packed}
use Rattle.plane.specs.Stored.{point_at}
use Rattle.model.specs.Round.{column, not_held}
use Rattle.columns.specs.Found.{is_free}

-- The rows of x at which a code is held exactly if the point is.
abbrev pub Same : List ℕ → List Point → ℕ → List ℕ → Type 0
Same codes ps x rows = (y : ℕ) → Memᴰ y rows → has ltb (packed x y) codes ≡ has lower (point_at x y) ps

pub free_are : (codes : List ℕ) (ps : List Point) (x : ℕ) (rows : List ℕ) → Same codes ps x rows
    → column (coordinate x) (map coordinate (passing (is_free codes x) rows)) ≡ not_held ps (column (coordinate x) (map coordinate rows))
unfolding passing column not_held
free_are codes ps x [] h = refl
free_are codes ps x (y ∷ rows) h = go (has ltb (packed x y) codes) refl (free_are codes ps x rows (λ z i. h z (later i)))
  where
    go : (b : Bool) → has ltb (packed x y) codes ≡ b
        → column (coordinate x) (map coordinate (passing (is_free codes x) rows)) ≡ not_held ps (column (coordinate x) (map coordinate rows))
        → column (coordinate x) (map coordinate (passing (is_free codes x) (y ∷ rows))) ≡ not_held ps (column (coordinate x) (map coordinate (y ∷ rows)))
    go true e rest = rw (e, sym (h y (head refl)) ∙ e) rest
    go false e rest = rw (e, sym (h y (head refl)) ∙ e) (ap (λ (l : List Point). point_at x y ∷ l) rest)

-- The row y, if it is free; and all such rows of a list.
abbrev pub free_row : List ℕ → ℕ → ℕ → List ℕ
free_row codes x y = passing (is_free codes x) (y ∷ [])

pub rows-put : (codes : List ℕ) (x : ℕ) (rows : List ℕ) {before after : List ℕ} {at r : ℕ}
    → Pasted (each_to (free_row codes x) rows (length rows)) before after at r → Pasted (passing (is_free codes x) rows) before after at r
rows-put codes x rows p = pasted_same (each_all (free_row codes x) rows ∙ each-passing (is_free codes x) rows) p

-- One row put, where it is held and where it is free.
module _ (codes : List ℕ) (x y k : ℕ) (is : k ≡ packed x y) (l : List ℕ) (at : ℕ) where
  test_is : {b r : Bool} → r ≡ has ltb k codes → r ≡ b → has ltb (packed x y) codes ≡ b
  test_is e t = ap (λ (z : ℕ). has ltb z codes) (sym is) ∙ sym e ∙ t

  pub row-held : {r : Bool} → r ≡ has ltb k codes → r ≡ true → Pasted (free_row codes x y) l l at at
  unfolding passing
  row-held e t =
      let none : at + 0 ≡ at = omega arith in
      rw (test_is e t) (subst (λ (n : ℕ). Pasted [] l l at n) none (pasted_none l at))

  pub row-free : {r : Bool} → r ≡ has ltb k codes → r ≡ false → at < length l → Pasted (free_row codes x y) l (set l at y) at (at + 1)
  unfolding passing
  row-free e t h = rw (test_is e t) (pasted_one l at y h)
