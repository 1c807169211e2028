-- The round's choice is the best of the answers of the columns. The candidates come column by column, and of one column the search keeps, from whatever was
-- found before, the candidate that the column names, if it saves more.
use mathlib.Core.Path.{◌≡◌, refl, sym, ap, ◌∙◌, subst}
use mathlib.Core.Bool.{Bool, true, false, not}
use mathlib.Core.Option.{Option, none, some}
use mathlib.Core.List.{List, [], ◌∷◌, ◌++◌, map, append-nil}
use Prim.Native.Nat.{ℕ}
use lib.Dec.{T}
use lib.IntN.{ℤ, pos}
use lib.Signed.{lt_z}
use Rattle.arrays.specs.Test.{if}
use Rattle.arrays.specs.Set.{has, passing}
use Rattle.arrays.proofs.Test.{true_of, false_of, of_true}
use Rattle.arrays.proofs.Order.{before-later}
use Rattle.arrays.proofs.Set.{passing-append}
use Rattle.arrays.proofs.Beside.{map-members}
use Rattle.plane.specs.Point.{Point, lower}
use Rattle.plane.proofs.Order.{whole-order}
use Rattle.model.specs.Tail.{tree_length_with}
use Rattle.model.specs.Round.{xs_of, ys_of, column, crossings, not_held, candidates, saving, best_above, best}
use Rattle.model.specs.Choice.{saved}
use Rattle.columns.specs.Column.{most_saving, ColumnAnswer, answer_for, column_answer, best_answer}
use Rattle.columns.proofs.InColumn.{column_is}

module _ (tail now : ℕ) (ps : List Point) where
  abbrev v : Point → ℤ
  v c = saving tail now ps c

  -- What is left to search, b, once a column has named o.
  after : ℤ → Option Point → Option Point → List Point → Option Point
  after top found none b = best_above tail now ps top found b
  after top found (some c) b = if (lt_z top (v c)) (λ _. best_above tail now ps (v c) (some c) b) (λ _. best_above tail now ps top found b)

  none_above : (a b c : ℤ) → lt_z a b ≡ false → lt_z b c ≡ false → lt_z a c ≡ false
  none_above a b c h k = false_of (lt_z a c) (λ t. subst T h (before-later whole-order a b c t (λ l. subst T k l)))

  search_part : (a : List Point) (top : ℤ) (found : Option Point) (b : List Point)
      → best_above tail now ps top found (a ++ b) ≡ after top found (most_saving tail now ps a) b
  unfolding best_above most_saving after
  search_part [] top found b = refl
  search_part (c ∷ a) top found b =
      go (most_saving tail now ps a) (search_part a (v c) (some c) b) (search_part a top found b)
      (ap (best_above tail now ps (v c) (some c)) (sym (append-nil a)) ∙ search_part a (v c) (some c) [])
    where
      go : (o : Option Point) → best_above tail now ps (v c) (some c) (a ++ b) ≡ after (v c) (some c) o b
          → best_above tail now ps top found (a ++ b) ≡ after top found o b
          → best_above tail now ps (v c) (some c) a ≡ after (v c) (some c) o []
          → best_above tail now ps top found ((c ∷ a) ++ b) ≡ after top found (best_above tail now ps (v c) (some c) a) b
      go none up on alone = by (lt_z top (v c)) refl
        where
          by : (t : Bool) → lt_z top (v c) ≡ t → best_above tail now ps top found ((c ∷ a) ++ b) ≡ after top found (best_above tail now ps (v c) (some c) a) b
          by true e = rw (alone, e) up
          by false e = rw (alone, e) on
      go (some d) up on alone = by (lt_z top (v c)) refl (lt_z (v c) (v d)) refl
        where
          by : (t : Bool) → lt_z top (v c) ≡ t → (u : Bool) → lt_z (v c) (v d) ≡ u
              → best_above tail now ps top found ((c ∷ a) ++ b) ≡ after top found (best_above tail now ps (v c) (some c) a) b
          by true e true f =
              let first : best_above tail now ps (v c) (some c) a ≡ some d = rw f at alone in
              rw (first, e, true_of (lt_z top (v d)) (whole-order.trans top (v c) (v d) (of_true e) (of_true f))) (rw f at up)
          by true e false f =
              let first : best_above tail now ps (v c) (some c) a ≡ some c = rw f at alone in
              rw (first, e) (rw f at up)
          by false e true f =
              let first : best_above tail now ps (v c) (some c) a ≡ some d = rw f at alone in
              rw (first, e) on
          by false e false f =
              let first : best_above tail now ps (v c) (some c) a ≡ some c = rw f at alone in
              rw (first, e) (rw (none_above top (v c) (v d) e f) at on)

module _ (tail : ℕ) (ps : List Point) where
  abbrev now : ℕ
  now = tree_length_with tail ps

  -- The column x of the rows ys.
  answer_in : List ℤ → ℤ → ColumnAnswer
  answer_in ys x = answer_for tail ps (most_saving tail now ps (not_held ps (column x ys)))

  -- Column after column.
  all_columns : (xs ys : List ℤ) (top : ℤ) (found : Option Point)
      → best_above tail now ps top found (not_held ps (crossings xs ys)) ≡ best_answer top found (map (answer_in ys) xs)
  unfolding crossings best_above not_held passing best_answer after answer_in
  all_columns [] ys top found = refl
  all_columns (x ∷ xs) ys top found =
      ap (best_above tail now ps top found) (passing-append (λ (c : Point). not (has lower c ps)) (column x ys) (crossings xs ys))
      ∙ search_part tail now ps (not_held ps (column x ys)) top found (not_held ps (crossings xs ys))
      ∙ go (most_saving tail now ps (not_held ps (column x ys))) (all_columns xs ys)
    where
      go : (o : Option Point)
          → ((t : ℤ) (f : Option Point) → best_above tail now ps t f (not_held ps (crossings xs ys)) ≡ best_answer t f (map (answer_in ys) xs))
          → after tail now ps top found o (not_held ps (crossings xs ys)) ≡ best_answer top found (answer_for tail ps o ∷ map (answer_in ys) xs)
      go none rest = rest top found
      go (some c) rest = by (lt_z top (saved tail ps c)) refl
        where
          by : (t : Bool) → lt_z top (saved tail ps c) ≡ t
              → after tail now ps top found (some c) (not_held ps (crossings xs ys))
              ≡ best_answer top found (answer_for tail ps (some c) ∷ map (answer_in ys) xs)
          by true e = rw e (rest (saved tail ps c) (some c))
          by false e = rw e (rest top found)

  pub by_columns : best tail ps ≡ best_answer (pos 0) none (map (column_answer tail ps) (xs_of ps))
  unfolding best candidates column_answer answer_in
  by_columns =
      all_columns (xs_of ps) (ys_of ps) (pos 0) none
      ∙ ap (best_answer (pos 0) none)
      (map-members (answer_in (ys_of ps)) (column_answer tail ps) (xs_of ps)
      (λ x i. ap (λ (l : List Point). answer_for tail ps (most_saving tail now ps l)) (sym (column_is x ps i))))
