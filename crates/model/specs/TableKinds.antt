-- Rows of the table of decks on kinds: decks whose pins are not all sensors, and files of four sections, taken and refused.
use Rattle.std.specs.Prelude.{List, [], ◌∷◌, ◌++◌, ℕ, replicate}
use Rattle.arrays.specs.Text.{bytes}
use Rattle.plane.specs.Point.{Point}
use Rattle.model.specs.Round.{tap}
use Rattle.model.specs.Call.{add, withdraw, one_round, run_to_end, done, refused, answered, rounds}
use Rattle.model.specs.Contents.{Contents, with_kinds}
use Rattle.model.specs.File.{deck, refusal}
use Rattle.model.specs.Decks.{DeckRow, TableRow, starting, from_empty, trace, deck_row, file_row, lengths_row, pair, point, from}

-- The contents of a deck with these pins, the kinds of them in their order, and these taps.
abbrev pub devices : List Point → List ℕ → List Point → Contents
devices pins kinds taps = with_kinds (record { pins = pins; steiner = taps }) kinds

-- Pins of three kinds, put below others, so that the kinds have to move up with their pins; then one between others is withdrawn.
unfoldable pub kinds_move : DeckRow
kinds_move =
    from_empty (add (point 9 0) 0 ∷ add (point 5 0) 1 ∷ add (point 0 0) 2 ∷ add (point 2 0) 1 ∷ withdraw (point 5 0) ∷ [])
    (trace (done ∷ done ∷ done ∷ done ∷ done ∷ [])
    (0 ∷ 0 ∷ 4 ∷ 9 ∷ 9 ∷ 9 ∷ [])
    (devices (point 0 0 ∷ point 2 0 ∷ point 9 0 ∷ []) (2 ∷ 1 ∷ 0 ∷ []) [])
    (from (point 0 0) (point 2 0) ∷ from (point 2 0) (point 9 0) ∷ []))

-- The deck of the example with a display and a controller: a round and a run to the end keep the kinds, and the tap turned into a pin is the
-- display that it is given as.
unfoldable pub tap_becomes_display : DeckRow
tap_becomes_display =
    from_empty (add (point 10 0) 2 ∷ add (point 5 8) 0 ∷ add (point 0 0) 1 ∷ one_round ∷ run_to_end ∷ add (point 5 0) 1 ∷ [])
    (trace (done ∷ done ∷ done ∷ answered (tap (point 5 0) 5) ∷ rounds 0 ∷ done ∷ [])
    (0 ∷ 0 ∷ 13 ∷ 23 ∷ 18 ∷ 18 ∷ 18 ∷ [])
    (devices (point 0 0 ∷ point 5 0 ∷ point 5 8 ∷ point 10 0 ∷ []) (1 ∷ 1 ∷ 0 ∷ 2 ∷ []) [])
    (from (point 0 0) (point 5 0) ∷ from (point 5 0) (point 5 8) ∷ from (point 5 0) (point 10 0) ∷ []))

-- 7 before 15, and 15 before 8; a refused call leaves the kind that is there. Withdrawn and added anew, the pin has the new kind.
unfoldable pub kind_refusals : DeckRow
kind_refusals =
    starting (point 0 0 ∷ [])
    (add (point 30001 0) 3 ∷ add (point 0 0) 3 ∷ add (point 0 0) 2 ∷ add (point 1 0) 256 ∷ withdraw (point 0 0) ∷ add (point 0 0) 2 ∷ [])
    (trace (refused 7 ∷ refused 15 ∷ refused 8 ∷ refused 15 ∷ done ∷ done ∷ [])
    (0 ∷ 0 ∷ 0 ∷ 0 ∷ 0 ∷ 0 ∷ 0 ∷ [])
    (devices (point 0 0 ∷ []) (2 ∷ []) [])
    [])

-- The pins (0,0) and (0,1), a controller and a sensor, and their run. The first section starts at byte 38.
unfoldable pub kinds_file : TableRow
kinds_file =
    file_row
    (bytes "DECK" ++ (4 ∷ 0 ∷ []) ++ pair 38 8 ++ pair 46 0 ++ pair 46 2 ++ pair 48 2
    ++ (0 ∷ 0 ∷ 0 ∷ 0 ∷ 0 ∷ 0 ∷ 1 ∷ 0 ∷ []) ++ (0 ∷ 1 ∷ []) ++ (2 ∷ 0 ∷ []))
    (deck (devices (point 0 0 ∷ point 0 1 ∷ []) (2 ∷ 0 ∷ []) []))

-- The same two pins in a plain file, which may have kinds.
unfoldable pub plain_kinds_file : TableRow
plain_kinds_file =
    file_row
    (bytes "DECK" ++ (4 ∷ 0 ∷ []) ++ pair 38 8 ++ pair 46 0 ++ pair 46 0 ++ pair 46 2
    ++ (0 ∷ 0 ∷ 0 ∷ 0 ∷ 0 ∷ 0 ∷ 1 ∷ 0 ∷ []) ++ (2 ∷ 0 ∷ []))
    (deck (devices (point 0 0 ∷ point 0 1 ∷ []) (2 ∷ 0 ∷ []) []))

-- 2: four sections, and 37 bytes, one too few for the four pairs.
unfoldable pub pair_missing : TableRow
pair_missing =
    file_row
    (bytes "DECK" ++ (4 ∷ 0 ∷ []) ++ pair 37 0 ++ pair 37 0 ++ pair 37 0 ++ (37 ∷ 0 ∷ 0 ∷ 0 ∷ 0 ∷ 0 ∷ 0 ∷ []))
    (refusal 2)

-- 2: four sections, the first of which starts at byte 30.
unfoldable pub starts_early : TableRow
starts_early =
    file_row
    (bytes "DECK" ++ (4 ∷ 0 ∷ []) ++ pair 30 8 ++ pair 38 0 ++ pair 38 0 ++ pair 38 0)
    (refusal 2)

-- 5: 206 taps in a file of three sections, all at one place.
unfoldable pub many_taps : TableRow
many_taps =
    file_row
    (bytes "DECK" ++ (3 ∷ 0 ∷ []) ++ pair 30 0 ++ pair 30 824 ++ pair 854 0
    ++ replicate 824 0)
    (refusal 5)

-- 6: the run has its larger number first, and a kind is 3.
unfoldable pub run_turned_beside_kind : TableRow
run_turned_beside_kind =
    file_row
    (bytes "DECK" ++ (4 ∷ 0 ∷ []) ++ pair 38 8 ++ pair 46 0 ++ pair 46 2 ++ pair 48 2
    ++ (0 ∷ 0 ∷ 0 ∷ 0 ∷ 0 ∷ 0 ∷ 1 ∷ 0 ∷ []) ++ (1 ∷ 0 ∷ []) ++ (3 ∷ 0 ∷ []))
    (refusal 6)

-- 15: a kind of 3.
unfoldable pub kind_above : TableRow
kind_above =
    file_row
    (bytes "DECK" ++ (4 ∷ 0 ∷ []) ++ pair 38 8 ++ pair 46 0 ++ pair 46 2 ++ pair 48 2
    ++ (0 ∷ 0 ∷ 0 ∷ 0 ∷ 0 ∷ 0 ∷ 1 ∷ 0 ∷ []) ++ (0 ∷ 1 ∷ []) ++ (1 ∷ 3 ∷ []))
    (refusal 15)

-- 15: one kind for two pins, and three.
unfoldable pub kind_too_few : TableRow
kind_too_few =
    file_row
    (bytes "DECK" ++ (4 ∷ 0 ∷ []) ++ pair 38 8 ++ pair 46 0 ++ pair 46 2 ++ pair 48 1
    ++ (0 ∷ 0 ∷ 0 ∷ 0 ∷ 0 ∷ 0 ∷ 1 ∷ 0 ∷ []) ++ (0 ∷ 1 ∷ []) ++ (1 ∷ []))
    (refusal 15)

unfoldable pub kind_too_many : TableRow
kind_too_many =
    file_row
    (bytes "DECK" ++ (4 ∷ 0 ∷ []) ++ pair 38 8 ++ pair 46 0 ++ pair 46 2 ++ pair 48 3
    ++ (0 ∷ 0 ∷ 0 ∷ 0 ∷ 0 ∷ 0 ∷ 1 ∷ 0 ∷ []) ++ (0 ∷ 1 ∷ []) ++ (1 ∷ 0 ∷ 0 ∷ []))
    (refusal 15)

-- 15: sensors only, and no pin at all.
unfoldable pub sensors_in_four : TableRow
sensors_in_four =
    file_row
    (bytes "DECK" ++ (4 ∷ 0 ∷ []) ++ pair 38 8 ++ pair 46 0 ++ pair 46 2 ++ pair 48 2
    ++ (0 ∷ 0 ∷ 0 ∷ 0 ∷ 0 ∷ 0 ∷ 1 ∷ 0 ∷ []) ++ (0 ∷ 1 ∷ []) ++ (0 ∷ 0 ∷ []))
    (refusal 15)

unfoldable pub no_pin_in_four : TableRow
no_pin_in_four =
    file_row
    (bytes "DECK" ++ (4 ∷ 0 ∷ []) ++ pair 38 0 ++ pair 38 0 ++ pair 38 0 ++ pair 38 0)
    (refusal 15)

-- 15 in plain files too: a kind of 3; one kind for two pins, and three; sensors only.
unfoldable pub plain_kind_above : TableRow
plain_kind_above =
    file_row
    (bytes "DECK" ++ (4 ∷ 0 ∷ []) ++ pair 38 8 ++ pair 46 0 ++ pair 46 0 ++ pair 46 2
    ++ (0 ∷ 0 ∷ 0 ∷ 0 ∷ 0 ∷ 0 ∷ 1 ∷ 0 ∷ []) ++ (1 ∷ 3 ∷ []))
    (refusal 15)

unfoldable pub plain_kind_too_few : TableRow
plain_kind_too_few =
    file_row
    (bytes "DECK" ++ (4 ∷ 0 ∷ []) ++ pair 38 8 ++ pair 46 0 ++ pair 46 0 ++ pair 46 1
    ++ (0 ∷ 0 ∷ 0 ∷ 0 ∷ 0 ∷ 0 ∷ 1 ∷ 0 ∷ []) ++ (1 ∷ []))
    (refusal 15)

unfoldable pub plain_kind_too_many : TableRow
plain_kind_too_many =
    file_row
    (bytes "DECK" ++ (4 ∷ 0 ∷ []) ++ pair 38 8 ++ pair 46 0 ++ pair 46 0 ++ pair 46 3
    ++ (0 ∷ 0 ∷ 0 ∷ 0 ∷ 0 ∷ 0 ∷ 1 ∷ 0 ∷ []) ++ (1 ∷ 0 ∷ 0 ∷ []))
    (refusal 15)

unfoldable pub plain_sensors_in_four : TableRow
plain_sensors_in_four =
    file_row
    (bytes "DECK" ++ (4 ∷ 0 ∷ []) ++ pair 38 8 ++ pair 46 0 ++ pair 46 0 ++ pair 46 2
    ++ (0 ∷ 0 ∷ 0 ∷ 0 ∷ 0 ∷ 0 ∷ 1 ∷ 0 ∷ []) ++ (0 ∷ 0 ∷ []))
    (refusal 15)

-- 1: 857 bytes of four sections, of which 819 are kinds.
unfoldable pub too_long_of_four : TableRow
too_long_of_four =
    file_row
    (bytes "DECK" ++ (4 ∷ 0 ∷ []) ++ pair 38 0 ++ pair 38 0 ++ pair 38 0 ++ pair 38 819
    ++ replicate 819 1)
    (refusal 1)

-- Lengths by kind. Two displays joined over the tap (5,0): 10 cm at the displays, and 8 from the tap to the sensor (5,8).
unfoldable pub displays_over_tap : TableRow
displays_over_tap =
    lengths_row (devices (point 0 0 ∷ point 5 8 ∷ point 10 0 ∷ []) (1 ∷ 0 ∷ 1 ∷ []) (point 5 0 ∷ [])) (8 ∷ 10 ∷ 0 ∷ [])

-- A sensor, a controller, a display and two sensors in a line: the larger kind is at the higher end, at the lower, at the lower, at none.
unfoldable pub kinds_in_line : TableRow
kinds_in_line =
    lengths_row
    (devices (point 0 0 ∷ point 4 0 ∷ point 9 0 ∷ point 16 0 ∷ point 27 0 ∷ []) (0 ∷ 2 ∷ 1 ∷ 0 ∷ 0 ∷ []) [])
    (11 ∷ 7 ∷ 9 ∷ [])

-- One pin and no pin have no run.
unfoldable pub one_controller : TableRow
one_controller = lengths_row (devices (point 7 0 ∷ []) (2 ∷ []) []) (0 ∷ 0 ∷ 0 ∷ [])

unfoldable pub no_device : TableRow
no_device = lengths_row (devices [] [] []) (0 ∷ 0 ∷ 0 ∷ [])

-- The rows.
unfoldable pub kind_table : List TableRow
kind_table =
    deck_row kinds_move ∷ deck_row tap_becomes_display ∷ deck_row kind_refusals ∷ kinds_file ∷ plain_kinds_file ∷ pair_missing ∷ starts_early
    ∷ many_taps ∷ run_turned_beside_kind ∷ kind_above ∷ kind_too_few ∷ kind_too_many ∷ sensors_in_four ∷ no_pin_in_four
    ∷ plain_kind_above ∷ plain_kind_too_few ∷ plain_kind_too_many ∷ plain_sensors_in_four ∷ too_long_of_four
    ∷ displays_over_tap ∷ kinds_in_line ∷ one_controller ∷ no_device ∷ []
