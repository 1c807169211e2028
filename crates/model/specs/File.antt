-- The deck file, byte for byte (SPEC 7): what is written for the contents of a deck, and what reading a list of bytes gives (SPEC 8.2). Its
-- sections by number: 0 the pins, 1 the taps, 2 the runs, 3 the kinds of the pins, which a deck of sensors alone does without.
use Rattle.std.specs.Prelude.{◌≡◌, ◌⊎◌, Bool, true, not, ◌&&◌, ◌||◌, ℕ, suc, ◌*◌, ◌%◌, ◌≤◌, leb, ltb, eqb, length, take}
use Rattle.std.proofs.Math.Option.{Option, none, some}
use mathlib.Core.List.{List, [], ◌∷◌, ◌++◌, Memᴰ}
use Rattle.arrays.specs.Number.{bytes2}
use Rattle.arrays.specs.Test.{if}
use Rattle.plane.specs.Point.{Point, lower}
use Rattle.plane.specs.Edge.{Edge}
use Rattle.plane.specs.Coordinate.{signed16, word16}
use Rattle.arrays.specs.Same.{same_list}
use Rattle.arrays.specs.Set.{tie, all}
use Rattle.model.specs.Refusal.{Check, check, first_failed}
use Rattle.model.specs.State.{State, points, placed, valid, max_pins}
use Rattle.model.specs.DeviceKinds.{is_kind, sensors, sensors_only}
use Rattle.model.specs.Contents.{Contents, with_kinds, keeping}
use Rattle.model.specs.Question.{listed}
use Rattle.model.specs.Sections.{magic, count_place, header_size, section_file, section_count, size, section, laid_out}

-- The fewest and the most sections of a file (SPEC 7.1).
abbrev pub fewest_sections : ℕ
fewest_sections = 3

abbrev pub most_sections : ℕ
most_sections = 4

-- The number of the section of kinds.
abbrev pub kinds_place : ℕ
kinds_place = 3

-- The lengths of the shortest and of the longest file (SPEC 7.5, 10.1).
abbrev pub shortest : ℕ
shortest = header_size fewest_sections

abbrev pub longest : ℕ
longest = 856

-- The four bytes of a point (SPEC 7.2).
abbrev pub point_bytes : Point → List ℕ
point_bytes p = bytes2 (word16 p.x) ++ bytes2 (word16 p.y)

-- A section of points.
unfoldable pub section_of : List Point → List ℕ
section_of [] = []
section_of (p ∷ l) = point_bytes p ++ section_of l

-- The number of a point among all points of the file, which are given lower first (SPEC 7.3).
unfoldable pub number_of : List Point → Point → ℕ
number_of [] p = 0
number_of (q ∷ l) p = if (tie lower p q) (λ _. 0) (λ _. suc (number_of l p))

-- The two bytes of each run (SPEC 7.3).
unfoldable pub run_bytes : List Point → List Edge → List ℕ
run_bytes ps [] = []
run_bytes ps (e ∷ l) = number_of ps e.lo ∷ number_of ps e.hi ∷ run_bytes ps l

-- The runs section of a state, in the listing order (SPEC 7.3).
abbrev pub run_section : State → List ℕ
run_section s = run_bytes (points s) (listed s)

-- What stands for the kinds of the pins (SPEC 7.8): a section with a byte for each, or none where all are sensors.
abbrev pub kind_sections : {A : Type 0} → Bool → A → List A
kind_sections bare kinds = if bare (λ _. []) (λ _. kinds ∷ [])

-- The sections of a file with these bytes for its runs, in their order (SPEC 7.1).
abbrev pub sections_with : List ℕ → Contents → List (List ℕ)
sections_with runs c =
    let s = c.state in
    section_of s.pins ∷ section_of s.steiner ∷ runs ∷ kind_sections (sensors_only c.kinds) c.kinds

-- Those of a full file, with every run.
abbrev pub sections_of : Contents → List (List ℕ)
sections_of c = sections_with (run_section c.state) c

-- The lengths of the sections of n pins, m taps and e runs; `bare` says that all pins are sensors.
abbrev pub sizes_of : ℕ → ℕ → ℕ → Bool → List ℕ
sizes_of n m e bare = 4 * n ∷ 4 * m ∷ 2 * e ∷ kind_sections bare n

-- The file of contents: a full file, with every run (SPEC 7.4, 7.5).
unfoldable pub file_of : Contents → List ℕ
file_of c = section_file (sections_of c)

-- Contents without their taps: the pins and their kinds alone.
abbrev pub pins_only : Contents → Contents
pins_only c = keeping c (record { pins = c.state.pins; steiner = [] })

-- The plain file of contents: their pins, no tap and no run, and their kinds if one is not a sensor (SPEC 7.4, 7.8).
unfoldable pub plain_file_of : Contents → List ℕ
plain_file_of c = section_file (sections_with [] (pins_only c))

-- What reading gives: the contents of the deck, or the number of a refusal.
pub data Read : Type 0 where
  deck : Contents → Read
  refusal : ℕ → Read

-- The points of a section, four bytes each.
unfoldable pub points_of : List ℕ → List Point
points_of [] = []
points_of (a ∷ []) = []
points_of (a ∷ b ∷ []) = []
points_of (a ∷ b ∷ c ∷ []) = []
points_of (a ∷ b ∷ c ∷ d ∷ l) = record { x = signed16 a b; y = signed16 c d } ∷ points_of l

-- Check 1 (SPEC 8.2): the length of the file, its first four bytes and its number of sections.
abbrev pub headed : List ℕ → Bool
headed b =
    leb shortest (length b)
    && (leb (length b) longest
    && (same_list (take count_place b) magic && (leb fewest_sections (section_count b) && leb (section_count b) most_sections)))

-- Check 3 (SPEC 8.2): sections of whole points and whole runs.
abbrev pub whole : List ℕ → Bool
whole b = eqb (size b 0 % 4) 0 && (eqb (size b 1 % 4) 0 && eqb (size b 2 % 2) 0)

-- The points in section k.
abbrev pub section_points : List ℕ → ℕ → List Point
section_points b k = points_of (section b k)

-- The pins and taps that a file shows.
abbrev pub file_state : List ℕ → State
file_state b = record { pins = section_points b 0; steiner = section_points b 1 }

-- Whether a file has a section of kinds.
abbrev pub has_kinds : List ℕ → Bool
has_kinds b = ltb kinds_place (section_count b)

-- The kinds of its pins: those of that section, or sensors only (SPEC 7.8).
abbrev pub file_kinds : List ℕ → List ℕ
file_kinds b = if (has_kinds b) (λ _. section b kinds_place) (λ _. sensors (file_state b).pins)

-- And the contents.
abbrev pub file_contents : List ℕ → Contents
file_contents b = with_kinds (file_state b) (file_kinds b)

-- A plain file has no taps and no runs (SPEC 7.4).
abbrev pub plain : List ℕ → Bool
plain b = eqb (size b 1) 0 && eqb (size b 2) 0

-- Check 6 (SPEC 8.2): a file that is not plain holds a sound deck. The runs of a sound deck are those of its tree in the listing order,
-- so they are the runs section of the state.
abbrev pub holds_deck : List ℕ → State → Bool
holds_deck b s = plain b || (valid s && same_list (section b 2) (run_section s))

-- Check 15 (SPEC 8.2): a section of kinds has one byte for each of n pins, each of them a kind, and not sensors alone.
abbrev pub all_kinds : List ℕ → ℕ → Bool
all_kinds kinds n = eqb (length kinds) n && (all is_kind kinds && not (sensors_only kinds))

abbrev pub shows_kinds : List ℕ → Bool
shows_kinds b = if (has_kinds b) (λ _. all_kinds (section b kinds_place) (length (file_state b).pins)) (λ _. true)

-- The same by what it asks, apart from the test: no section of kinds, or one with as many kinds as pins, each at most 2, and one of them not 0.
abbrev pub ShowsKinds : List ℕ → Type 0
ShowsKinds b =
    let kinds = section b kinds_place in
    (section_count b ≤ 3)
    ⊎ ((length kinds ≡ length (file_state b).pins) × ((k : ℕ) → Memᴰ k kinds → k ≤ 2) × ((k : ℕ) × Memᴰ k kinds × ¬ (k ≡ 0)))

-- The checks of a file, in their order (SPEC 8.2); 2 is `laid_out`, 4 and 5 are the number of pins and `placed`.
abbrev pub file_checks : List ℕ → List Check
file_checks b =
    let s = file_state b in
    check 1 (λ _. headed b)
    ∷ check 2 (λ _. laid_out b)
    ∷ check 3 (λ _. whole b)
    ∷ check 4 (λ _. leb (length s.pins) max_pins)
    ∷ check 5 (λ _. placed s)
    ∷ check 6 (λ _. holds_deck b s)
    ∷ check 15 (λ _. shows_kinds b)
    ∷ []

-- The numbers of these checks.
abbrev pub FileNumber : ℕ → Type 0
FileNumber n = ((1 ≤ n) × (n ≤ 6)) ⊎ (n ≡ 15)

-- The deck of the file where no check failed, else the refusal.
unfoldable pub read_by : Contents → Option ℕ → Read
read_by c none = deck c
read_by c (some n) = refusal n

-- Reading a file (SPEC 8.2).
unfoldable pub read_file : List ℕ → Read
read_file b = read_by (file_contents b) (first_failed (file_checks b))
