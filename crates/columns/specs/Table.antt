-- Rows on columns: points, a tail, an x, and what its column answers, each by computation. They tell apart what tempts: places held, the bar of a round,
-- savings without tails, the higher of equals.
use Rattle.std.specs.Prelude.{◌≡◌, List, [], ◌∷◌, ℕ, ℤ, pos, negsuc}
use Rattle.plane.specs.Point.{Point}
use Rattle.model.specs.Decks.{play, point}
use Rattle.columns.specs.Column.{ColumnAnswer, no_candidate, chosen, candidates_at, most_saving, column_answer}

-- What the column of an x answers, worked out.
unfoldable pub worked_out : ℕ → List Point → ℤ → ColumnAnswer
unfolding play candidates_at most_saving column_answer
worked_out tail ps x = column_answer tail ps x

-- A row.
pub record ColumnRow : Type 0 where
  pub points : List Point
  pub tail : ℕ
  pub x : ℤ
  pub answer : ColumnAnswer

abbrev row : List Point → ℕ → ℤ → ColumnAnswer → ColumnRow
row ps tail x a = record { points = ps; tail = tail; x = x; answer = a }

-- The row holds.
abbrev pub Holds : ColumnRow → Type 0
Holds r = worked_out r.tail r.points r.x ≡ r.answer

-- A corner: three points, on two lines along x and two along y. The one candidate, which makes a square of them, costs 10 more.
abbrev corner : List Point
corner = point 0 0 ∷ point 0 10 ∷ point 10 0 ∷ []

-- Two points on a line, and one beside their middle: the column of that one has two candidates, one as good as the other.
abbrev beside : List Point
beside = point 0 0 ∷ point 0 10 ∷ point 5 5 ∷ []

-- Row 4 of the table of decks.
abbrev three : List Point
three = point 0 0 ∷ point 5 8 ∷ point 10 0 ∷ []

-- No point, one and two in a line: no column. A column below 0, and with tails 2 · 3 lower. A line on which every place is held; no line, be it between
-- points, below 0 or out of range. Equals at 0, and below 0 with tails: the lower. A saving above 0, one of 0, and one above 0 without tails that is below 0
-- with them.
unfoldable pub column_table : List ColumnRow
column_table =
    row [] 0 (pos 0) no_candidate
    ∷ row (point 7 3 ∷ []) 0 (pos 7) no_candidate
    ∷ row (point 0 0 ∷ point 0 5 ∷ []) 0 (pos 0) no_candidate
    ∷ row corner 0 (pos 10) (chosen (point 10 10) (negsuc 9))
    ∷ row corner 3 (pos 10) (chosen (point 10 10) (negsuc 15))
    ∷ row corner 0 (pos 0) no_candidate
    ∷ row corner 0 (pos 5) no_candidate
    ∷ row corner 0 (negsuc 9) no_candidate
    ∷ row corner 0 (pos 30001) no_candidate
    ∷ row beside 0 (pos 5) (chosen (point 5 0) (pos 0))
    ∷ row beside 1 (pos 5) (chosen (point 5 0) (negsuc 1))
    ∷ row beside 0 (pos 0) (chosen (point 0 5) (pos 5))
    ∷ row three 0 (pos 5) (chosen (point 5 0) (pos 5))
    ∷ row three 0 (pos 0) (chosen (point 0 8) (pos 0))
    ∷ row three 3 (pos 5) (chosen (point 5 0) (negsuc 0))
    ∷ []
