-- Rows of the table of decks that tell apart what the numbered rows leave together: mistakes that tempt, ties and refusals.
use Rattle.std.specs.Prelude.{[], ◌∷◌, pos, negsuc}
use Rattle.model.specs.Round.{tap}
use Rattle.model.specs.Call.{add, withdraw, one_round, run_to_end, done, refused, answered, rounds}
use Rattle.model.specs.Contents.{holding}
use Rattle.model.specs.Decks.{DeckRow, starting, from_empty, trace, point, from}

-- A round that sweeps out its own tap, and whose fall, 2, is above its saving, 1.
unfoldable pub swept_by_its_round : DeckRow
swept_by_its_round =
    from_empty (add (point 0 3) 0 ∷ add (point 2 1) 0 ∷ add (point 0 0) 0 ∷ run_to_end ∷ add (point 1 2) 0 ∷ withdraw (point 0 0) ∷ one_round ∷ [])
    (trace (done ∷ done ∷ done ∷ rounds 1 ∷ done ∷ done ∷ answered (tap (point 0 2) 2) ∷ [])
    (0 ∷ 0 ∷ 4 ∷ 6 ∷ 5 ∷ 7 ∷ 6 ∷ 4 ∷ [])
    (holding (point 0 3 ∷ point 1 2 ∷ point 2 1 ∷ []) [])
    (from (point 0 3) (point 1 2) ∷ from (point 1 2) (point 2 1) ∷ []))

-- A sweep whose order matters: the lowest of (1,1) and (3,1) goes, and then (3,1) stays.
unfoldable pub sweep_order : DeckRow
sweep_order =
    from_empty (add (point 2 1) 0 ∷ add (point 1 0) 0 ∷ add (point 4 1) 0 ∷ add (point 3 0) 0 ∷ add (point 0 2) 0 ∷ run_to_end
    ∷ add (point 2 2) 0 ∷ withdraw (point 2 1) ∷ [])
    (trace (done ∷ done ∷ done ∷ done ∷ done ∷ rounds 2 ∷ done ∷ done ∷ [])
    (0 ∷ 0 ∷ 2 ∷ 4 ∷ 6 ∷ 9 ∷ 7 ∷ 8 ∷ 8 ∷ [])
    (holding (point 0 2 ∷ point 1 0 ∷ point 2 2 ∷ point 3 0 ∷ point 4 1 ∷ []) (point 3 1 ∷ []))
    (from (point 0 2) (point 2 2) ∷ from (point 1 0) (point 3 0) ∷ from (point 2 2) (point 3 1)
    ∷ from (point 3 0) (point 3 1) ∷ from (point 3 1) (point 4 1) ∷ []))

-- A candidate on a line that only a tap has, after a withdrawal.
unfoldable pub line_of_tap : DeckRow
line_of_tap =
    from_empty (add (point 0 2) 0 ∷ add (point 4 1) 0 ∷ add (point 2 0) 0 ∷ run_to_end ∷ add (point 3 2) 0 ∷ withdraw (point 2 0) ∷ one_round ∷ [])
    (trace (done ∷ done ∷ done ∷ rounds 1 ∷ done ∷ done ∷ answered (tap (point 2 2) 2) ∷ [])
    (0 ∷ 0 ∷ 5 ∷ 7 ∷ 6 ∷ 8 ∷ 7 ∷ 5 ∷ [])
    (holding (point 0 2 ∷ point 3 2 ∷ point 4 1 ∷ []) [])
    (from (point 0 2) (point 3 2) ∷ from (point 3 2) (point 4 1) ∷ []))

-- A removal after which another tap has two runs, in the tree of the remaining points.
unfoldable pub second_removal : DeckRow
second_removal =
    from_empty (add (point 1 0) 0 ∷ add (point 4 1) 0 ∷ add (point 0 2) 0 ∷ add (point 3 3) 0 ∷ run_to_end ∷ withdraw (point 4 1) ∷ [])
    (trace (done ∷ done ∷ done ∷ done ∷ rounds 2 ∷ done ∷ [])
    (0 ∷ 0 ∷ 4 ∷ 7 ∷ 10 ∷ 8 ∷ 7 ∷ [])
    (holding (point 0 2 ∷ point 1 0 ∷ point 3 3 ∷ []) [])
    (from (point 0 2) (point 1 0) ∷ from (point 0 2) (point 3 3) ∷ []))

-- A tap leaves, and a run shorter than that between its two neighbours joins the halves.
unfoldable pub another_run_joins : DeckRow
another_run_joins =
    from_empty (add (point 2 0) 0 ∷ add (point 1 1) 0 ∷ add (point 0 0) 0 ∷ one_round ∷ add (point 2 1) 0 ∷ withdraw (point 0 0) ∷ [])
    (trace (done ∷ done ∷ done ∷ answered (tap (point 1 0) 1) ∷ done ∷ done ∷ [])
    (0 ∷ 0 ∷ 2 ∷ 4 ∷ 3 ∷ 4 ∷ 2 ∷ [])
    (holding (point 1 1 ∷ point 2 0 ∷ point 2 1 ∷ []) [])
    (from (point 1 1) (point 2 1) ∷ from (point 2 0) (point 2 1) ∷ []))

-- Pins added in falling order: the tree is that of the set.
unfoldable pub order_of_entry : DeckRow
order_of_entry =
    from_empty (add (point 1 2) 0 ∷ add (point 0 1) 0 ∷ add (point 1 0) 0 ∷ one_round ∷ add (point 0 0) 0 ∷ [])
    (trace (done ∷ done ∷ done ∷ answered (tap (point 1 1) 1) ∷ done ∷ [])
    (0 ∷ 0 ∷ 2 ∷ 4 ∷ 3 ∷ 4 ∷ [])
    (holding (point 0 0 ∷ point 0 1 ∷ point 1 0 ∷ point 1 2 ∷ []) [])
    (from (point 0 0) (point 0 1) ∷ from (point 0 0) (point 1 0) ∷ from (point 0 1) (point 1 2) ∷ []))

-- Two candidates of equal greatest saving, (0,1) and (1,0): the lower.
unfoldable pub equal_savings : DeckRow
equal_savings =
    from_empty (add (point 1 1) 0 ∷ add (point 0 0) 0 ∷ add (point 2 0) 0 ∷ add (point 0 2) 0 ∷ one_round ∷ [])
    (trace (done ∷ done ∷ done ∷ done ∷ answered (tap (point 0 1) 1) ∷ [])
    (0 ∷ 0 ∷ 2 ∷ 4 ∷ 6 ∷ 5 ∷ [])
    (holding (point 0 0 ∷ point 0 2 ∷ point 1 1 ∷ point 2 0 ∷ []) (point 0 1 ∷ []))
    (from (point 0 0) (point 0 1) ∷ from (point 0 0) (point 2 0) ∷ from (point 0 1) (point 0 2) ∷ from (point 0 1) (point 1 1) ∷ []))

-- A candidate, (0,1), that comes first and saves 1, and a higher one, (1,1), that saves 2: the greater saving.
unfoldable pub greatest_saving : DeckRow
greatest_saving =
    starting (point 0 0 ∷ point 1 3 ∷ point 3 1 ∷ [])
    (one_round ∷ [])
    (trace (answered (tap (point 1 1) 2) ∷ [])
    (8 ∷ 6 ∷ [])
    (holding (point 0 0 ∷ point 1 3 ∷ point 3 1 ∷ []) (point 1 1 ∷ []))
    (from (point 0 0) (point 1 1) ∷ from (point 1 1) (point 1 3) ∷ from (point 1 1) (point 3 1) ∷ []))

-- Runs of equal length, (0,2) to (3,2) and (1,0) to (3,1): the first has the lower lower end, the second the lower higher end. The first.
unfoldable pub lower_end_first : DeckRow
lower_end_first =
    starting (point 0 2 ∷ point 1 0 ∷ point 3 1 ∷ point 3 2 ∷ [])
    []
    (trace []
    (7 ∷ [])
    (holding (point 0 2 ∷ point 1 0 ∷ point 3 1 ∷ point 3 2 ∷ []) [])
    (from (point 0 2) (point 1 0) ∷ from (point 0 2) (point 3 2) ∷ from (point 3 1) (point 3 2) ∷ []))

-- The pins (2,−2), (2,2) and (5,0), and then (0,0): of three runs that tie at length 5 the one between (0,0) and (5,0) comes first.
unfoldable pub octant_border : DeckRow
octant_border =
    starting (record { x = pos 2; y = negsuc 1 } ∷ point 2 2 ∷ point 5 0 ∷ [])
    (add (point 0 0) 0 ∷ [])
    (trace (done ∷ [])
    (9 ∷ 13 ∷ [])
    (holding (point 0 0 ∷ record { x = pos 2; y = negsuc 1 } ∷ point 2 2 ∷ point 5 0 ∷ []) [])
    (from (point 0 0) (record { x = pos 2; y = negsuc 1 }) ∷ from (point 0 0) (point 2 2) ∷ from (point 0 0) (point 5 0) ∷ []))

-- Refused calls leave the deck: 7 out of range, 8 a pin there, 9 no pin there, a tap and out of range included.
unfoldable pub refusals : DeckRow
refusals =
    starting (point 0 0 ∷ point 5 8 ∷ point 10 0 ∷ [])
    (one_round ∷ add (point 30001 0) 0 ∷ add (record { x = pos 0; y = negsuc 30000 }) 0 ∷ add (point 5 8) 0 ∷ withdraw (point 1 1)
    ∷ withdraw (point 5 0) ∷ withdraw (point 40000 0) ∷ add (record { x = pos 30000; y = negsuc 29999 }) 0 ∷ [])
    (trace (answered (tap (point 5 0) 5) ∷ refused 7 ∷ refused 7 ∷ refused 8 ∷ refused 9 ∷ refused 9 ∷ refused 9 ∷ done ∷ [])
    (23 ∷ 18 ∷ 18 ∷ 18 ∷ 18 ∷ 18 ∷ 18 ∷ 18 ∷ 60008 ∷ [])
    (holding (point 0 0 ∷ point 5 8 ∷ point 10 0 ∷ record { x = pos 30000; y = negsuc 29999 } ∷ []) (point 5 0 ∷ []))
    (from (point 0 0) (point 5 0) ∷ from (point 5 0) (point 5 8) ∷ from (point 5 0) (point 10 0)
    ∷ from (point 10 0) (record { x = pos 30000; y = negsuc 29999 }) ∷ []))
