-- The lines for replies and answers of a deck's calls and questions (SPEC 9.3, 9.4), without the line feed.
use Rattle.std.specs.Prelude.{List, ◌++◌, ℕ, ℤ, Option, Some, None}
use Rattle.arrays.specs.Text.{bytes}
use Rattle.model.specs.Listing.{field, number_fields, decimal, signed_decimal, refused_word, kinds_word, tap_word, run_word}
use Rattle.ascii.specs.Line.{number_text}
use Rattle.columns.specs.declared.Candidate.{Candidate}
use Rattle.calls.specs.declared.Reply.{Reply}
use Rattle.calls.specs.declared.Reply.TheVariants as reply
use Rattle.questions.specs.declared.Answer.{Answer}
use Rattle.questions.specs.declared.Answer.TheVariants as answer

-- The words ok, finished, fall, rounds, length, counts, no, degree, column, saving, none.
abbrev pub ok_word : List ℕ
ok_word = bytes "ok"

abbrev pub finished_word : List ℕ
finished_word = bytes "finished"

abbrev pub fall_word : List ℕ
fall_word = bytes "fall"

abbrev pub rounds_word : List ℕ
rounds_word = bytes "rounds"

abbrev pub length_word : List ℕ
length_word = bytes "length"

abbrev pub counts_word : List ℕ
counts_word = bytes "counts"

abbrev pub no_word : List ℕ
no_word = bytes "no"

abbrev pub degree_word : List ℕ
degree_word = bytes "degree"

abbrev pub column_word : List ℕ
column_word = bytes "column"

abbrev pub saving_word : List ℕ
saving_word = bytes "saving"

abbrev pub none_word : List ℕ
none_word = bytes "none"

-- Room for the parts of a line: the coordinates of a point, a fall in length, the ends of an edge, an edge, a column.
abbrev pub point_room : ℕ
point_room = 44

abbrev pub fall_room : ℕ
fall_room = 73

abbrev pub ends_room : ℕ
ends_room = 88

abbrev pub edge_room : ℕ
edge_room = 112

abbrev pub column_room : ℕ
column_room = 79

-- A word and three numbers: `counts PINS TAPS RUNS`, `kinds LENGTH LENGTH LENGTH`.
abbrev pub numbers_text : List ℕ → ℕ → ℕ → ℕ → List ℕ
numbers_text w a b c = w ++ number_fields a b c

-- A word, the coordinates of a point, and a second word, which has its space in front.
abbrev pub point_head : List ℕ → ℤ → ℤ → List ℕ → List ℕ
point_head w x y v = w ++ (field (signed_decimal x) ++ (field (signed_decimal y) ++ v))

-- A new Steiner point with the fall in length: `tap X Y fall F`.
abbrev pub fall_text : ℤ → ℤ → ℕ → List ℕ
fall_text x y n = point_head tap_word x y (field fall_word) ++ field (decimal n)

-- An edge: `run X Y X Y LENGTH`.
abbrev pub ends_text : ℤ → ℤ → ℤ → ℤ → List ℕ
ends_text x y u v = field (signed_decimal x) ++ (field (signed_decimal y) ++ (field (signed_decimal u) ++ field (signed_decimal v)))

abbrev pub edge_text : ℤ → ℤ → ℤ → ℤ → ℕ → List ℕ
edge_text x y u v n = run_word ++ (ends_text x y u v ++ field (decimal n))

-- The candidate of a column: `column X Y saving S`, or `none`.
abbrev pub candidate_text : ℤ → ℤ → ℤ → List ℕ
candidate_text x y s = point_head column_word x y (field saving_word) ++ field (signed_decimal s)

unfoldable pub column_text : Option Candidate → List ℕ
column_text None = none_word
column_text (Some c) = candidate_text c.x c.y c.saving

-- The line of a reply.
unfoldable pub reply_text : Reply → List ℕ
reply_text reply.Done = ok_word
reply_text (reply.Refused n) = number_text refused_word n
reply_text reply.Finished = finished_word
reply_text (reply.Tap x y n) = fall_text x y n
reply_text (reply.Rounds n) = number_text rounds_word n

-- The line of an answer.
unfoldable pub answer_text : Answer → List ℕ
answer_text (answer.Refused n) = number_text refused_word n
answer_text (answer.Length n) = number_text length_word n
answer_text (answer.Counts p t r) = numbers_text counts_word p t r
answer_text (answer.Edge x y u v n) = edge_text x y u v n
answer_text answer.NoEdge = no_word ++ field run_word
answer_text (answer.Degree n) = number_text degree_word n
answer_text (answer.Kinds a b c) = numbers_text kinds_word a b c
answer_text (answer.Column c) = column_text c
