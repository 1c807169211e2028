-- Rows of the table of decks for three pins (SPEC 6.6): decks that are planned, and the half perimeters of the boxes around their pins.
use Rattle.std.specs.Prelude.{[], ◌∷◌, pos, negsuc}
use Rattle.model.specs.Call.{add, withdraw, run_to_end, done, rounds}
use Rattle.model.specs.Contents.{holding}
use Rattle.model.specs.Decks.{DeckRow, TableRow, starting, from_empty, trace, box_row, point, from}

-- Three pins on a line: 10 cm from the first to the last, and no tap.
unfoldable pub three_on_aLine : DeckRow
three_on_aLine =
    from_empty (add (point 10 3) 0 ∷ add (point 0 3) 0 ∷ add (point 4 3) 0 ∷ run_to_end ∷ [])
    (trace (done ∷ done ∷ done ∷ rounds 0 ∷ [])
    (0 ∷ 0 ∷ 10 ∷ 10 ∷ 10 ∷ [])
    (holding (point 0 3 ∷ point 4 3 ∷ point 10 3 ∷ []) [])
    (from (point 0 3) (point 4 3) ∷ from (point 4 3) (point 10 3) ∷ []))

-- Two of them share an x: the tap stands on it, at the y of the third.
unfoldable pub two_on_one_x : DeckRow
two_on_one_x =
    from_empty (add (point 0 10) 0 ∷ add (point 0 0) 0 ∷ add (point 7 4) 0 ∷ run_to_end ∷ [])
    (trace (done ∷ done ∷ done ∷ rounds 1 ∷ [])
    (0 ∷ 0 ∷ 10 ∷ 21 ∷ 17 ∷ [])
    (holding (point 0 0 ∷ point 0 10 ∷ point 7 4 ∷ []) (point 0 4 ∷ []))
    (from (point 0 0) (point 0 4) ∷ from (point 0 4) (point 0 10) ∷ from (point 0 4) (point 7 4) ∷ []))

-- The middle point, with the middle x and the middle y of the three, is a pin: no tap.
unfoldable pub middle_is_pin : DeckRow
middle_is_pin =
    from_empty (add (point 4 6) 0 ∷ add (point 9 11) 0 ∷ add (point 0 0) 0 ∷ run_to_end ∷ [])
    (trace (done ∷ done ∷ done ∷ rounds 0 ∷ [])
    (0 ∷ 0 ∷ 10 ∷ 20 ∷ 20 ∷ [])
    (holding (point 0 0 ∷ point 4 6 ∷ point 9 11 ∷ []) [])
    (from (point 0 0) (point 4 6) ∷ from (point 4 6) (point 9 11) ∷ []))

-- A tap that a withdrawal leaves away from the middle point: 6 cm, and 5 after a run to the end.
unfoldable pub tap_off_middle : DeckRow
tap_off_middle =
    starting (point 0 0 ∷ point 0 1 ∷ point 2 2 ∷ point 3 0 ∷ [])
    (run_to_end ∷ withdraw (point 0 0) ∷ run_to_end ∷ [])
    (trace (rounds 1 ∷ done ∷ rounds 1 ∷ [])
    (7 ∷ 6 ∷ 6 ∷ 5 ∷ [])
    (holding (point 0 1 ∷ point 2 2 ∷ point 3 0 ∷ []) (point 2 1 ∷ []))
    (from (point 0 1) (point 2 1) ∷ from (point 2 1) (point 2 2) ∷ from (point 2 1) (point 3 0) ∷ []))

-- The half perimeters of the boxes around these pins.
unfoldable pub box_of_line : TableRow
box_of_line = box_row (point 10 3 ∷ point 0 3 ∷ point 4 3 ∷ []) 10

unfoldable pub box_of_two_on_one_x : TableRow
box_of_two_on_one_x = box_row (point 0 10 ∷ point 0 0 ∷ point 7 4 ∷ []) 17

unfoldable pub box_of_middle_pin : TableRow
box_of_middle_pin = box_row (point 4 6 ∷ point 9 11 ∷ point 0 0 ∷ []) 20

unfoldable pub box_of_tap_off_middle : TableRow
box_of_tap_off_middle = box_row (point 0 1 ∷ point 2 2 ∷ point 3 0 ∷ []) 5

-- Around the origin, each point on another side of the box: 5 cm wide and 13 high.
unfoldable pub box_around_origin : TableRow
box_around_origin = box_row (record { x = negsuc 1; y = pos 5 } ∷ record { x = pos 3; y = negsuc 3 } ∷ point 1 9 ∷ []) 18
