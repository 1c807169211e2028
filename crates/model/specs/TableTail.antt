-- Rows of the table of decks on tails (SPEC 1.6, 4.8): the bar of a round, falls, lengths by kind, and calls that keep the tail.
use Rattle.std.specs.Prelude.{List, [], ◌∷◌}
use Rattle.model.specs.Round.{finished, tap}
use Rattle.model.specs.Call.{add, withdraw, one_round, run_to_end, set_tail, done, refused, answered, rounds}
use Rattle.model.specs.Contents.{with_kinds, with_tail, holding}
use Rattle.plane.specs.Point.{Point}
use Rattle.model.specs.Decks.{DeckRow, TableRow, starting, from_empty, trace, deck_row, lengths_row, point, from}

-- The pins of row 5: a cross, which the tap in its middle makes 10 cm shorter, for one run more.
abbrev cross : List Point
cross = point 0 5 ∷ point 5 0 ∷ point 5 10 ∷ point 10 5 ∷ []

-- With a tail of 4 the tap saves 2; with one of 5 nothing more, and it stays.
unfoldable pub tail_of_four : DeckRow
tail_of_four =
    starting cross (set_tail 4 ∷ one_round ∷ set_tail 5 ∷ one_round ∷ [])
    (trace (done ∷ answered (tap (point 5 5) 2) ∷ done ∷ answered finished ∷ [])
    (30 ∷ 54 ∷ 52 ∷ 60 ∷ 60 ∷ [])
    (with_tail 5 (holding cross (point 5 5 ∷ [])))
    (from (point 0 5) (point 5 5) ∷ from (point 5 0) (point 5 5) ∷ from (point 5 5) (point 5 10) ∷ from (point 5 5) (point 10 5) ∷ []))

-- With a tail of 5 the first round is finished, as the tap would save 0. 501 is refused, 500 is taken, and 0 takes the tails away again.
unfoldable pub tail_of_five : DeckRow
tail_of_five =
    starting cross (set_tail 5 ∷ one_round ∷ set_tail 501 ∷ set_tail 500 ∷ run_to_end ∷ set_tail 0 ∷ run_to_end ∷ [])
    (trace (done ∷ answered finished ∷ refused 16 ∷ done ∷ rounds 0 ∷ done ∷ rounds 1 ∷ [])
    (30 ∷ 60 ∷ 60 ∷ 60 ∷ 3030 ∷ 3030 ∷ 30 ∷ 20 ∷ [])
    (holding cross (point 5 5 ∷ []))
    (from (point 0 5) (point 5 5) ∷ from (point 5 0) (point 5 5) ∷ from (point 5 5) (point 5 10) ∷ from (point 5 5) (point 10 5) ∷ []))

-- A round that sweeps out its own tap and one more: the fall, 26, has the two tails of the run that is gone, and is above the saving, 4.
unfoldable pub swept_with_tails : DeckRow
swept_with_tails =
    from_empty
    (add (point 0 30) 0 ∷ add (point 20 10) 0 ∷ add (point 0 0) 0 ∷ run_to_end ∷ set_tail 3 ∷ add (point 10 20) 0 ∷ withdraw (point 0 0) ∷ one_round ∷ [])
    (trace (done ∷ done ∷ done ∷ rounds 1 ∷ done ∷ done ∷ done ∷ answered (tap (point 0 20) 26) ∷ [])
    (0 ∷ 0 ∷ 40 ∷ 60 ∷ 50 ∷ 68 ∷ 94 ∷ 78 ∷ 52 ∷ [])
    (with_tail 3 (holding (point 0 30 ∷ point 10 20 ∷ point 20 10 ∷ []) []))
    (from (point 0 30) (point 10 20) ∷ from (point 10 20) (point 20 10) ∷ []))

-- Lengths by kind: with a tail of 7 each run is 14 longer, two of the displays and one of the sensor.
unfoldable pub displays_with_tails : TableRow
displays_with_tails =
    lengths_row
    (with_tail 7 (with_kinds (record { pins = point 0 0 ∷ point 5 8 ∷ point 10 0 ∷ []; steiner = point 5 0 ∷ [] }) (1 ∷ 0 ∷ 1 ∷ [])))
    (22 ∷ 38 ∷ 0 ∷ [])

-- The rows.
unfoldable pub tail_table : List TableRow
tail_table = deck_row tail_of_four ∷ deck_row tail_of_five ∷ deck_row swept_with_tails ∷ displays_with_tails ∷ []
