-- The table of decks: the rows of SPEC 11 by number, and those of specs/TableMore.antt, specs/TableThreePins.antt and specs/TableFiles.antt. Each
-- is proved in proofs/Decks.antt. A row has the pins to begin with (or begins with an empty deck), the calls, and then what they show: the replies, the
-- lengths at the start and after each call, the pins and taps at the end, and the runs.
use Rattle.std.specs.Prelude.{List, [], ◌∷◌, pos, negsuc}
use Rattle.model.specs.Round.{finished, tap}
use Rattle.model.specs.Call.{add, withdraw, one_round, run_to_end, done, answered, rounds}
use Rattle.model.specs.Contents.{holding}
use Rattle.model.specs.Decks.{DeckRow, TableRow, starting, from_empty, trace, deck_row, octant_row, point, from}
use Rattle.model.specs.TableFiles.{other_start, other_count, too_long, sections_apart, byte_behind, uneven_section, uneven_runs, pin_too_many, pin_twice}
use Rattle.model.specs.TableFiles.{beyond_range, tap_on_pin, run_turned, tap_of_two_runs, other_tree, full_file, plain_file}
use Rattle.model.specs.TableMore.{swept_by_its_round, sweep_order, line_of_tap, second_removal, another_run_joins, order_of_entry, equal_savings}
use Rattle.model.specs.TableMore.{greatest_saving, lower_end_first, octant_border, refusals}
use Rattle.model.specs.TableThreePins.{three_on_aLine, two_on_one_x, middle_is_pin, tap_off_middle}
use Rattle.model.specs.TableThreePins.{box_of_line, box_of_two_on_one_x, box_of_middle_pin, box_of_tap_off_middle, box_around_origin}

-- Row 1: no pin.
unfoldable pub deck1 : DeckRow
deck1 =
    from_empty (one_round ∷ [])
    (trace (answered finished ∷ [])
    (0 ∷ 0 ∷ [])
    (holding [] [])
    [])

-- Row 2: one pin.
unfoldable pub deck2 : DeckRow
deck2 =
    starting (record { x = pos 7; y = negsuc 2 } ∷ [])
    (one_round ∷ [])
    (trace (answered finished ∷ [])
    (0 ∷ 0 ∷ [])
    (holding (record { x = pos 7; y = negsuc 2 } ∷ []) [])
    [])

-- Row 3: two pins.
unfoldable pub deck3 : DeckRow
deck3 =
    starting (record { x = negsuc 4; y = pos 0 } ∷ point 5 4 ∷ [])
    (one_round ∷ [])
    (trace (answered finished ∷ [])
    (14 ∷ 14 ∷ [])
    (holding (record { x = negsuc 4; y = pos 0 } ∷ point 5 4 ∷ []) [])
    (from (record { x = negsuc 4; y = pos 0 }) (point 5 4) ∷ []))

-- Row 4: the deck of the example, 23 cm and then 18.
unfoldable pub deck4 : DeckRow
deck4 =
    starting (point 0 0 ∷ point 5 8 ∷ point 10 0 ∷ [])
    (one_round ∷ one_round ∷ [])
    (trace (answered (tap (point 5 0) 5) ∷ answered finished ∷ [])
    (23 ∷ 18 ∷ 18 ∷ [])
    (holding (point 0 0 ∷ point 5 8 ∷ point 10 0 ∷ []) (point 5 0 ∷ []))
    (from (point 0 0) (point 5 0) ∷ from (point 5 0) (point 5 8) ∷ from (point 5 0) (point 10 0) ∷ []))

-- Row 5: four pins around (5,5), 30 cm and with the tap there 20.
unfoldable pub deck5 : DeckRow
deck5 =
    starting (point 0 5 ∷ point 5 0 ∷ point 5 10 ∷ point 10 5 ∷ [])
    (one_round ∷ one_round ∷ [])
    (trace (answered (tap (point 5 5) 10) ∷ answered finished ∷ [])
    (30 ∷ 20 ∷ 20 ∷ [])
    (holding (point 0 5 ∷ point 5 0 ∷ point 5 10 ∷ point 10 5 ∷ []) (point 5 5 ∷ []))
    (from (point 0 5) (point 5 5) ∷ from (point 5 0) (point 5 5) ∷ from (point 5 5) (point 5 10) ∷ from (point 5 5) (point 10 5) ∷ []))

-- Row 6: row 5 finished, and a pin less: the tap has three runs and stays.
unfoldable pub deck6 : DeckRow
deck6 =
    starting (point 0 5 ∷ point 5 0 ∷ point 5 10 ∷ point 10 5 ∷ [])
    (run_to_end ∷ withdraw (point 10 5) ∷ [])
    (trace (rounds 1 ∷ done ∷ [])
    (30 ∷ 20 ∷ 15 ∷ [])
    (holding (point 0 5 ∷ point 5 0 ∷ point 5 10 ∷ []) (point 5 5 ∷ []))
    (from (point 0 5) (point 5 5) ∷ from (point 5 0) (point 5 5) ∷ from (point 5 5) (point 5 10) ∷ []))

-- Row 7: row 6 with one more pin less: the tap goes.
unfoldable pub deck7 : DeckRow
deck7 =
    starting (point 0 5 ∷ point 5 0 ∷ point 5 10 ∷ point 10 5 ∷ [])
    (run_to_end ∷ withdraw (point 10 5) ∷ withdraw (point 5 10) ∷ [])
    (trace (rounds 1 ∷ done ∷ done ∷ [])
    (30 ∷ 20 ∷ 15 ∷ 10 ∷ [])
    (holding (point 0 5 ∷ point 5 0 ∷ []) [])
    (from (point 0 5) (point 5 0) ∷ []))

-- Row 8: row 5 finished, and a pin where the tap is.
unfoldable pub deck8 : DeckRow
deck8 =
    starting (point 0 5 ∷ point 5 0 ∷ point 5 10 ∷ point 10 5 ∷ [])
    (run_to_end ∷ add (point 5 5) 0 ∷ [])
    (trace (rounds 1 ∷ done ∷ [])
    (30 ∷ 20 ∷ 20 ∷ [])
    (holding (point 0 5 ∷ point 5 0 ∷ point 5 5 ∷ point 5 10 ∷ point 10 5 ∷ []) [])
    (from (point 0 5) (point 5 5) ∷ from (point 5 0) (point 5 5) ∷ from (point 5 5) (point 5 10) ∷ from (point 5 5) (point 10 5) ∷ []))

-- Row 9: four runs as long as each other, of which the last in order is not in the tree.
unfoldable pub deck9 : DeckRow
deck9 =
    starting (point 0 0 ∷ point 0 10 ∷ point 10 0 ∷ point 10 10 ∷ [])
    (one_round ∷ [])
    (trace (answered finished ∷ [])
    (30 ∷ 30 ∷ [])
    (holding (point 0 0 ∷ point 0 10 ∷ point 10 0 ∷ point 10 10 ∷ []) [])
    (from (point 0 0) (point 0 10) ∷ from (point 0 0) (point 10 0) ∷ from (point 0 10) (point 10 10) ∷ []))

-- Row 10: two rounds, 76 cm and then 71 and 66.
unfoldable pub deck10 : DeckRow
deck10 =
    starting (point 0 0 ∷ point 5 8 ∷ point 10 0 ∷ point 40 0 ∷ point 45 8 ∷ point 50 0 ∷ [])
    (one_round ∷ one_round ∷ [])
    (trace (answered (tap (point 5 0) 5) ∷ answered (tap (point 45 0) 5) ∷ [])
    (76 ∷ 71 ∷ 66 ∷ [])
    (holding (point 0 0 ∷ point 5 8 ∷ point 10 0 ∷ point 40 0 ∷ point 45 8 ∷ point 50 0 ∷ []) (point 5 0 ∷ point 45 0 ∷ []))
    (from (point 0 0) (point 5 0) ∷ from (point 5 0) (point 5 8) ∷ from (point 5 0) (point 10 0) ∷ from (point 10 0) (point 40 0)
    ∷ from (point 40 0) (point 45 0) ∷ from (point 45 0) (point 45 8) ∷ from (point 45 0) (point 50 0) ∷ []))

-- Row 11: the octants of four differences.
unfoldable pub deck11 : TableRow
deck11 = octant_row (point 1 0 ∷ point 1 1 ∷ point 0 1 ∷ record { x = negsuc 0; y = pos 1 } ∷ []) (0 ∷ 1 ∷ 2 ∷ 3 ∷ [])

-- The table.
unfoldable pub table : List TableRow
table =
    deck_row deck1 ∷ deck_row deck2 ∷ deck_row deck3 ∷ deck_row deck4 ∷ deck_row deck5 ∷ deck_row deck6 ∷ deck_row deck7 ∷ deck_row deck8
    ∷ deck_row deck9 ∷ deck_row deck10 ∷ deck11 ∷ deck_row swept_by_its_round ∷ deck_row sweep_order ∷ deck_row line_of_tap
    ∷ deck_row second_removal ∷ deck_row another_run_joins ∷ deck_row order_of_entry ∷ deck_row equal_savings ∷ deck_row greatest_saving
    ∷ deck_row lower_end_first ∷ deck_row octant_border ∷ deck_row refusals
    ∷ deck_row three_on_aLine ∷ deck_row two_on_one_x ∷ deck_row middle_is_pin ∷ deck_row tap_off_middle
    ∷ box_of_line ∷ box_of_two_on_one_x ∷ box_of_middle_pin ∷ box_of_tap_off_middle ∷ box_around_origin
    ∷ other_start ∷ other_count ∷ too_long ∷ sections_apart ∷ byte_behind ∷ uneven_section ∷ uneven_runs ∷ pin_too_many
    ∷ pin_twice ∷ beyond_range ∷ tap_on_pin ∷ run_turned ∷ tap_of_two_runs ∷ other_tree ∷ full_file ∷ plain_file ∷ []
