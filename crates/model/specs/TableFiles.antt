-- Rows of the table on files of three sections: a file for each refusal that fails the next check too, files that just miss each check, and a file taken
-- in both forms. The first line of a list is the header: its four letters, the section count, three pairs of offset and length. The next
-- has the sections.
use Rattle.std.specs.Prelude.{[], ◌∷◌, ◌++◌, replicate}
use Rattle.arrays.specs.Text.{bytes}
use Rattle.model.specs.Contents.{holding}
use Rattle.model.specs.File.{deck, refusal}
use Rattle.model.specs.Decks.{TableRow, file_row, pair, point}

-- 1: the first four bytes are DECL; the second section does not start where the first ends.
unfoldable pub other_start : TableRow
other_start =
    file_row
    (bytes "DECL" ++ (3 ∷ 0 ∷ []) ++ pair 30 1 ++ pair 30 0 ++ pair 31 0
    ++ (0 ∷ []))
    (refusal 1)

-- 1: a section count of 5.
unfoldable pub other_count : TableRow
other_count =
    file_row
    (bytes "DECK" ++ (5 ∷ 0 ∷ []) ++ pair 30 8 ++ pair 38 0 ++ pair 38 0
    ++ (0 ∷ 0 ∷ 0 ∷ 0 ∷ 0 ∷ 0 ∷ 1 ∷ 0 ∷ []))
    (refusal 1)

-- 1: 857 bytes, of which 827 are pins.
unfoldable pub too_long : TableRow
too_long =
    file_row
    (bytes "DECK" ++ (3 ∷ 0 ∷ []) ++ pair 30 827 ++ pair 857 0 ++ pair 857 0
    ++ replicate 827 0)
    (refusal 1)

-- 2: the second section does not start where the first ends; the first has three bytes.
unfoldable pub sections_apart : TableRow
sections_apart =
    file_row
    (bytes "DECK" ++ (3 ∷ 0 ∷ []) ++ pair 30 3 ++ pair 30 0 ++ pair 33 0
    ++ (0 ∷ 0 ∷ 0 ∷ []))
    (refusal 2)

-- 2: a byte behind the last section.
unfoldable pub byte_behind : TableRow
byte_behind =
    file_row
    (bytes "DECK" ++ (3 ∷ 0 ∷ []) ++ pair 30 8 ++ pair 38 0 ++ pair 38 0
    ++ (0 ∷ 0 ∷ 0 ∷ 0 ∷ 0 ∷ 0 ∷ 1 ∷ 0 ∷ []) ++ (0 ∷ []))
    (refusal 2)

-- 3: 65 pins and a byte more.
unfoldable pub uneven_section : TableRow
uneven_section =
    file_row
    (bytes "DECK" ++ (3 ∷ 0 ∷ []) ++ pair 30 261 ++ pair 291 0 ++ pair 291 0
    ++ replicate 261 0)
    (refusal 3)

-- 3: runs of three bytes.
unfoldable pub uneven_runs : TableRow
uneven_runs =
    file_row
    (bytes "DECK" ++ (3 ∷ 0 ∷ []) ++ pair 30 8 ++ pair 38 0 ++ pair 38 3
    ++ (0 ∷ 0 ∷ 0 ∷ 0 ∷ 0 ∷ 0 ∷ 1 ∷ 0 ∷ []) ++ (0 ∷ 1 ∷ 0 ∷ []))
    (refusal 3)

-- 4: 65 pins, all at one place.
unfoldable pub pin_too_many : TableRow
pin_too_many =
    file_row
    (bytes "DECK" ++ (3 ∷ 0 ∷ []) ++ pair 30 260 ++ pair 290 0 ++ pair 290 0
    ++ replicate 260 0)
    (refusal 4)

-- 5: two pins at one place; their run has its larger number first.
unfoldable pub pin_twice : TableRow
pin_twice =
    file_row
    (bytes "DECK" ++ (3 ∷ 0 ∷ []) ++ pair 30 8 ++ pair 38 0 ++ pair 38 2
    ++ (0 ∷ 0 ∷ 0 ∷ 0 ∷ 0 ∷ 0 ∷ 0 ∷ 0 ∷ []) ++ (1 ∷ 0 ∷ []))
    (refusal 5)

-- 5: a pin at (0,30001).
unfoldable pub beyond_range : TableRow
beyond_range =
    file_row
    (bytes "DECK" ++ (3 ∷ 0 ∷ []) ++ pair 30 4 ++ pair 34 0 ++ pair 34 0
    ++ (0 ∷ 0 ∷ 49 ∷ 117 ∷ []))
    (refusal 5)

-- 5: a tap where a pin stands.
unfoldable pub tap_on_pin : TableRow
tap_on_pin =
    file_row
    (bytes "DECK" ++ (3 ∷ 0 ∷ []) ++ pair 30 8 ++ pair 38 4 ++ pair 42 0
    ++ (0 ∷ 0 ∷ 0 ∷ 0 ∷ 0 ∷ 0 ∷ 1 ∷ 0 ∷ []) ++ (0 ∷ 0 ∷ 1 ∷ 0 ∷ []))
    (refusal 5)

-- 6: two pins, and their run has its larger number first.
unfoldable pub run_turned : TableRow
run_turned =
    file_row
    (bytes "DECK" ++ (3 ∷ 0 ∷ []) ++ pair 30 8 ++ pair 38 0 ++ pair 38 2
    ++ (0 ∷ 0 ∷ 0 ∷ 0 ∷ 0 ∷ 0 ∷ 1 ∷ 0 ∷ []) ++ (1 ∷ 0 ∷ []))
    (refusal 6)

-- 6: a tap at (0,1) with two runs, between the pins (0,0) and (0,2).
unfoldable pub tap_of_two_runs : TableRow
tap_of_two_runs =
    file_row
    (bytes "DECK" ++ (3 ∷ 0 ∷ []) ++ pair 30 8 ++ pair 38 4 ++ pair 42 4
    ++ (0 ∷ 0 ∷ 0 ∷ 0 ∷ 0 ∷ 0 ∷ 2 ∷ 0 ∷ []) ++ (0 ∷ 0 ∷ 1 ∷ 0 ∷ []) ++ (0 ∷ 1 ∷ 1 ∷ 2 ∷ []))
    (refusal 6)

-- 6: the pins of deck 9 with the run (10,0) to (10,10) in the place of (0,10) to (10,10), which is as long.
unfoldable pub other_tree : TableRow
other_tree =
    file_row
    (bytes "DECK" ++ (3 ∷ 0 ∷ []) ++ pair 30 16 ++ pair 46 0 ++ pair 46 6
    ++ (0 ∷ 0 ∷ 0 ∷ 0 ∷ 0 ∷ 0 ∷ 10 ∷ 0 ∷ 10 ∷ 0 ∷ 0 ∷ 0 ∷ 10 ∷ 0 ∷ 10 ∷ 0 ∷ []) ++ (0 ∷ 1 ∷ 0 ∷ 2 ∷ 2 ∷ 3 ∷ []))
    (refusal 6)

-- The pins (0,0) and (0,1) and their run.
unfoldable pub full_file : TableRow
full_file =
    file_row
    (bytes "DECK" ++ (3 ∷ 0 ∷ []) ++ pair 30 8 ++ pair 38 0 ++ pair 38 2
    ++ (0 ∷ 0 ∷ 0 ∷ 0 ∷ 0 ∷ 0 ∷ 1 ∷ 0 ∷ []) ++ (0 ∷ 1 ∷ []))
    (deck (holding (point 0 0 ∷ point 0 1 ∷ []) []))

-- The same two pins in a plain file.
unfoldable pub plain_file : TableRow
plain_file =
    file_row
    (bytes "DECK" ++ (3 ∷ 0 ∷ []) ++ pair 30 8 ++ pair 38 0 ++ pair 38 0
    ++ (0 ∷ 0 ∷ 0 ∷ 0 ∷ 0 ∷ 0 ∷ 1 ∷ 0 ∷ []))
    (deck (holding (point 0 0 ∷ point 0 1 ∷ []) []))
