-- The table of decks (SPEC 11): its rows, and the one statement that each of them holds.
use Rattle.std.specs.Prelude.{◌≡◌, ℕ, ◌/◌, ◌%◌, pos}
use mathlib.Core.List.{List, [], ◌∷◌, flatten}
use Rattle.spanning.specs.Graph.{total, degree}
use Rattle.spanning.specs.Kruskal.{comp, kruskal}
use Rattle.plane.specs.Point.{Point, lower, gap, dist, point_dec}
use Rattle.plane.specs.Edge.{Edge, before, listed_before, planar}
use Rattle.plane.specs.Coordinate.{signed16, word16}
use Rattle.octants.specs.OctantTable.{octants}
use Rattle.plane.specs.Box.{extreme, spread, half_perimeter}
use Rattle.arrays.specs.Beside.{beside}
use Rattle.arrays.specs.Set.{put, out, has, union, rising, all, passing}
use Rattle.model.specs.Refusal.{first_failed}
use Rattle.model.specs.Tree.{pairs, edges, mst}
use Rattle.model.specs.Tail.{no_tail, tree_length_with}
use Rattle.model.specs.State.{points, placed, valid, lowest_weak, prune_from, prune, insert, remove}
use Rattle.model.specs.Contents.{Contents, with_tail, holding}
use Rattle.model.specs.Round.{column, crossings, not_held, candidates, saving, best_above, best, round, rounds_from, finish}
use Rattle.model.specs.Call.{Call, Reply, insert_refusal, remove_refusal, tail_refusal, step}
use Rattle.model.specs.Question.{length_of_contents, listed}
use Rattle.model.specs.KindLength.{run_kind, kind_lengths}
use Rattle.arrays.specs.Same.{same_list}
use Rattle.model.specs.Sections.{pairs_from, header, section_file, follow, laid_out}
use Rattle.model.specs.File.{Read, deck, section_of, number_of, run_bytes, file_of, points_of, read_by, read_file}

-- What a list of calls shows: each reply, the tree's length at the start and after each call, and the last contents with their runs in listing order.
pub record Trace : Type 0 where
  pub replies : List Reply
  pub lengths : List ℕ
  pub last : Contents
  pub runs : List Edge

-- Traces are made by this alone.
abbrev pub trace : List Reply → List ℕ → Contents → List Edge → Trace
trace replies lengths last runs = record { replies = replies; lengths = lengths; last = last; runs = runs }

-- The trace of calls from the contents of a deck.
unfoldable pub play : Contents → List Call → Trace
unfolding total degree comp kruskal lower gap dist point_dec before listed_before planar put out has union pairs edges mst tree_length_with points lowest_weak
    prune_from prune insert remove column crossings passing not_held candidates saving best_above best round rounds_from finish first_failed insert_refusal
    remove_refusal tail_refusal beside step listed
play c [] = trace [] (length_of_contents c ∷ []) c (listed c.state)
play c (k ∷ ks) =
    let o = step c k in
    let t = play o.next ks in
    trace (o.reply ∷ t.replies) (length_of_contents c ∷ t.lengths) t.last t.runs

-- What reading a list of bytes gives.
unfoldable pub reads : List ℕ → Read
unfolding play rising all placed valid signed16 word16 follow laid_out section_of number_of run_bytes points_of read_by read_file
reads b = read_file b

-- The half perimeter of the box around points, worked out.
unfoldable pub half_around : List Point → ℕ
unfolding gap extreme spread half_perimeter
half_around ps = half_perimeter ps

-- The lengths by kind, worked out.
unfoldable pub lengths_of : Contents → List ℕ
unfolding play passing run_kind
lengths_of c = kind_lengths c

-- A row of calls: contents to begin with, calls, and what they must show.
pub record DeckRow : Type 0 where
  pub start : Contents
  pub calls : List Call
  pub shows : Trace

-- Rows are made by the next two alone: from a deck with pins, sensors all, and no tap, and from an empty deck.
abbrev pub starting : List Point → List Call → Trace → DeckRow
starting pins calls shows = record { start = holding pins []; calls = calls; shows = shows }

abbrev pub from_empty : List Call → Trace → DeckRow
from_empty calls shows = starting [] calls shows

-- A row of the table: calls and what they show; differences and their octants; a file and what reading it gives; points and the half
-- perimeter of the box around them; contents and their lengths by kind.
pub data TableRow : Type 0 where
  deck_row : DeckRow → TableRow
  octant_row : List Point → List ℕ → TableRow
  file_row : List ℕ → Read → TableRow
  box_row : List Point → ℕ → TableRow
  lengths_row : Contents → List ℕ → TableRow

-- The row holds.
abbrev pub Holds : TableRow → Type 0
Holds (deck_row r) = play r.start r.calls ≡ r.shows
Holds (octant_row differences numbers) = octants differences ≡ numbers
Holds (file_row b r) = reads b ≡ r
Holds (box_row ps n) = half_around ps ≡ n
Holds (lengths_row c lengths) = lengths_of c ≡ lengths

-- What reading the file of contents gives.
unfoldable pub filed : Contents → Read
unfolding reads flatten pairs_from header section_file file_of
filed c = reads (file_of c)

-- The file of the last contents of a row of calls reads back to them, without their tails.
abbrev pub Filed : TableRow → Type 0
Filed (deck_row r) = filed r.shows.last ≡ deck (with_tail no_tail r.shows.last)
Filed (octant_row differences numbers) = Unit {0}
Filed (file_row b r) = Unit {0}
Filed (box_row ps n) = Unit {0}
Filed (lengths_row c lengths) = filed c ≡ deck (with_tail no_tail c)

-- An offset and a length, both below 65,536, as eight bytes of a file's header: `pair 30 827` is 30 0 0 0 59 3 0 0.
abbrev pub pair : ℕ → ℕ → List ℕ
pair at size = at % 256 ∷ at / 256 ∷ 0 ∷ 0 ∷ size % 256 ∷ size / 256 ∷ 0 ∷ 0 ∷ []

-- Points and runs of the rows.
abbrev pub point : ℕ → ℕ → Point
point x y = record { x = pos x; y = pos y }

abbrev pub from : Point → Point → Edge
from p q = record { lo = p; hi = q }
