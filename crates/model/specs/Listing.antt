-- The listing (SPEC 9), as a list of bytes.
use Rattle.std.specs.Prelude.{List, [], ◌∷◌, ◌++◌, ℕ, zero, suc, ◌+◌, ◌/◌, ◌%◌, ltb, ℤ, pos, negsuc}
use Rattle.arrays.specs.Test.{if}
use Rattle.arrays.specs.Text.{bytes, byte}
use Rattle.plane.specs.Point.{Point}
use Rattle.plane.specs.Edge.{Edge}
use Rattle.model.specs.Contents.{Contents}
use Rattle.model.specs.Tail.{run_length}
use Rattle.model.specs.Question.{listed, length_of_contents, pin_count, steiner_count}
use Rattle.model.specs.KindLength.{kind_length}
use Rattle.model.specs.File.{Read, deck, refusal, read_file}
use Rattle.model.specs.Call.{run_to_end, step}

-- The decimal digits of n in ASCII in front of a text; k bounds their number.
unfoldable pub digits_from : ℕ → ℕ → List ℕ → List ℕ
digits_from zero n rest = rest
digits_from (suc k) n rest =
    let front = (byte "0" + n % 10) ∷ rest in
    if (ltb n 10) (λ _. front) (λ _. digits_from k (n / 10) front)

-- A number in base ten (SPEC 9.2): at most 20 digits, which every number below 10 ^ 20 fits.
abbrev pub decimal : ℕ → List ℕ
decimal n = digits_from 20 n []

-- A whole number, with a minus sign in front of a negative one (SPEC 9.2).
unfoldable pub signed_decimal : ℤ → List ℕ
signed_decimal (pos n) = decimal n
signed_decimal (negsuc n) = byte "-" ∷ decimal (suc n)

-- What stands between fields, and behind each line (SPEC 9.2).
abbrev pub space : ℕ
space = byte " "

abbrev pub line_feed : ℕ
line_feed = byte "\n"

-- The words deck, kinds, tap, run and refused.
abbrev pub deck_word : List ℕ
deck_word = bytes "deck"

abbrev pub kinds_word : List ℕ
kinds_word = bytes "kinds"

abbrev pub tap_word : List ℕ
tap_word = bytes "tap"

abbrev pub run_word : List ℕ
run_word = bytes "run"

abbrev pub refused_word : List ℕ
refused_word = bytes "refused"

-- One more field behind a space.
abbrev pub field : List ℕ → List ℕ
field t = space ∷ t

-- The two fields of a point.
abbrev pub point_fields : Point → List ℕ
point_fields p = field (signed_decimal p.x) ++ field (signed_decimal p.y)

-- Three numbers, each a field; and a line of a word and three numbers.
abbrev pub number_fields : ℕ → ℕ → ℕ → List ℕ
number_fields a b c = field (decimal a) ++ (field (decimal b) ++ field (decimal c))

abbrev pub numbers_line : List ℕ → ℕ → ℕ → ℕ → List ℕ
numbers_line w a b c = w ++ (number_fields a b c ++ (line_feed ∷ []))

-- The first line: pins, taps and length (SPEC 9.2).
abbrev pub head_line : Contents → List ℕ
head_line c = numbers_line deck_word (pin_count c.state) (steiner_count c.state) (length_of_contents c)

-- The second: the lengths of the kinds 0, 1 and 2 (SPEC 9.2).
abbrev pub kinds_line : Contents → List ℕ
kinds_line c = numbers_line kinds_word (kind_length c 0) (kind_length c 1) (kind_length c 2)

-- A line for each tap (SPEC 9.2).
unfoldable pub tap_lines : List Point → List ℕ
tap_lines [] = []
tap_lines (q ∷ l) = tap_word ++ (point_fields q ++ (line_feed ∷ tap_lines l))

-- A line for each run: its ends and its length, with tails (SPEC 9.2).
unfoldable pub run_lines : ℕ → List Edge → List ℕ
run_lines tail [] = []
run_lines tail (e ∷ l) =
    run_word ++ (point_fields e.lo ++ (point_fields e.hi ++ (field (decimal (run_length tail e)) ++ (line_feed ∷ run_lines tail l))))

-- The listing of the contents of a deck (SPEC 9.2).
unfoldable pub listing : Contents → List ℕ
listing c = head_line c ++ (kinds_line c ++ (tap_lines c.state.steiner ++ run_lines c.tail (listed c.state)))

-- The line of a refusal (SPEC 9.1).
abbrev pub refused_line : ℕ → List ℕ
refused_line n = refused_word ++ (field (decimal n) ++ (line_feed ∷ []))

-- What the listing program prints for a file (SPEC 9.1): the deck after a run to the end, or the refusal.
unfoldable pub listing_of_file : List ℕ → List ℕ
listing_of_file b = answer (read_file b)
  where
    answer : Read → List ℕ
    answer (deck c) = listing (step c run_to_end).next
    answer (refusal n) = refused_line n
