-- The three demands, as claims on what the program's functions answer and leave by their contracts: `reading` (deckfile::read),
-- `written` and `buffer_after` (deckfile::write), `called` (each call on a deck), `asked` (each question), `answer_number` and `answer_buffer`
-- (planner_plan and replay_calls), `arrow`, `glyph` and `arrow_table` (the functions of crate arrow), `indication_number` (display_arrow). That every
-- function ends, and touches nothing else, is part of what is proved of each.
use Rattle.std.specs.Prelude.{◌≡◌, ◌⊎◌, ◌↔◌, ℕ, ◌-◌, ◌≤◌, ◌<◌, T, ℤ, length, drop, Ok, Err}
use Rattle.std.proofs.Math.Option.{some}
use mathlib.Core.List.{List, ◌++◌, Memᴰ}
use Rattle.plane.specs.Point.{Point}
use Rattle.plane.specs.Edge.{Edge}
use Rattle.model.specs.State.{points}
use Rattle.model.specs.Contents.{Contents, empty_contents, ValidContents}
use Rattle.model.specs.Call as call
use Rattle.model.specs.Listing.{listing, refused_line, listing_of_file}
use Rattle.model.specs.File.{deck, refusal, FileNumber, shows_kinds, ShowsKinds, file_checks, read_file, file_of}
use Rattle.model.specs.Refusal.{FirstFailed}
use Rattle.arrow.specs.Arrow.{arrow_checks, arrow}
use Rattle.arrow.specs.Claim.{Arrows}
use Rattle.deck.specs.declared.Deck.{Deck}
use Rattle.deck.specs.declared.Outcome.{Outcome}
use Rattle.calls.specs.declared.Reply.TheVariants as reply
use Rattle.questions.specs.declared.Answer.TheVariants as question
use Rattle.deck.specs.Form.{deck_of, contents_of, state_of, Sound}
use Rattle.deck.specs.Calls.{deck_outcome, refused_outcome, called}
use Rattle.questions.specs.Answers.{Question, of_counts, of_edge, of_degree, answer_to}
use Rattle.deck.specs.Questions.{asked}
use Rattle.deck.specs.Session.{deck_after, replies, reckoned}
use Rattle.deckfile.specs.Reading.{reading, accepted_deck, refused_file}
use Rattle.deckfile.specs.Writing.{written, buffer_after}
use Rattle.deckfile.specs.RoundTrip.{ReadUntailed, WrittenRead, FullWrittenBack, PlainWrittenFull, WrittenSections, SoundFits}
use Rattle.deckfile.specs.Answer.{Entered}
use Rattle.demands.specs.Sessions.{AfterCalls, Bounds}
use Rattle.demands.specs.Method.{RunsAreTree, RoundOf, SweepsOf, EndOf}
use Rattle.demands.specs.KindLengths.{DeckLengths}
use Rattle.demands.specs.KindsFollow.{DeckKinds}
use Rattle.demands.specs.Tails.{DeckTails}
use Rattle.demands.specs.Columns.{DeckColumns}
use Rattle.ascii.specs.Text.{fitting}
use Rattle.listing.specs.Whole.{listing_room}
use Rattle.planner.specs.Entry.{to_end}
use Rattle.display.specs.Entry.{Numbered}
use Rattle.replay.specs.Claim.{Replayed}

-- The calls that a number can refuse (SPEC 8.3): 7, 15, 8 and 10 adding, 9 withdrawing, 16 setting the tail, none a round or a run to the end.
abbrev pub InCase : Contents → call.Call → ℕ → Type 0
InCase c (call.add p k) n = call.insert_refusal p k c.state ≡ some n
InCase c (call.withdraw p) n = call.remove_refusal p c.state ≡ some n
InCase c call.one_round n = ⊥
InCase c call.run_to_end n = ⊥
InCase c (call.set_tail tail) n = call.tail_refusal tail ≡ some n

-- What reading a file can answer (SPEC 8.1, 8.2): the deck of valid contents, or a number from 1 to 6, or 15, and an empty deck.
abbrev pub FileAnswer : Outcome → Type 0
FileAnswer o = ((c : Contents) × ValidContents c × (o ≡ accepted_deck (deck_of c))) ⊎ ((n : ℕ) × FileNumber n × (o ≡ refused_file n))

-- What is shown for a bay (SPEC 3.4, 8.5): an arrow from 0 to 8, or 13 or 14, and each of these exactly if its test is the first that fails.
pub record ArrowAnswer (display bay : Point) (pitch : ℤ) : Type 0 where
  pub answered : ((k : ℕ) × (k ≤ 8) × (arrow display bay pitch ≡ Ok k))
      ⊎ ((n : ℕ) × ((n ≡ 13) ⊎ (n ≡ 14)) × (arrow display bay pitch ≡ Err n))
  pub refused : (n : ℕ) → (arrow display bay pitch ≡ Err n) ↔ FirstFailed n (arrow_checks display bay pitch)

-- Demand 1: every file and every call is taken, or refused by a number of SPEC 8, and then the deck and the buffer are as SPEC 8.1 and 8.4
-- say.
pub record Demand1 : Type 0 where
  -- any bytes, and each number exactly if its test is the first that fails
  pub file : (b : List ℕ) → FileAnswer (reading b)
  pub file_refused : (b : List ℕ) (n : ℕ) → ((reading b).reply ≡ reply.Refused n) ↔ FirstFailed n (file_checks b)
  pub file_kinds : (b : List ℕ) → T (shows_kinds b) ↔ ShowsKinds b
  -- any deck that is not sound: 11 before all else, and the deck or the buffer as it was
  pub unsound_call : (d : Deck) (c : call.Call) → ¬ Sound d → called d c ≡ refused_outcome d 11
  pub unsound_question : (d : Deck) (q : Question) → ¬ Sound d → asked d q ≡ question.Refused 11
  pub unsound_writing : (d : Deck) (l : List ℕ) → ¬ Sound d → (written d l ≡ Err 11) × (buffer_after d l ≡ l)
  -- any other: the next deck is sound, and a refused call hands back the deck unchanged
  pub next_sound : (d : Deck) → Sound d → (c : call.Call) → Sound (called d c).next
  pub refused_call : (d : Deck) → Sound d → (c : call.Call) (n : ℕ) → (called d c).reply ≡ reply.Refused n
      → ((called d c).next ≡ d) × InCase (contents_of d) c n
  -- any buffer: shorter than the file, it is refused by 12 and keeps every byte; else every byte past the file is kept
  pub short_buffer : (d : Deck) (l : List ℕ) → Sound d → length l < length (file_of (contents_of d)) → (written d l ≡ Err 12)
      × (buffer_after d l ≡ l)
  pub long_buffer : (d : Deck) (l : List ℕ) → Sound d → length (file_of (contents_of d)) ≤ length l
      → (written d l ≡ Ok (length (file_of (contents_of d))))
      × (buffer_after d l ≡ file_of (contents_of d) ++ drop (length (file_of (contents_of d))) l)
  -- any display, any bay and any pitch
  pub arrow : (display bay : Point) (pitch : ℤ) → ArrowAnswer display bay pitch

-- What the listing program writes for a list of bytes (SPEC 9; `listing_of_file`, by the contract of decklist's `list_file`).
pub record ListingOf (b : List ℕ) : Type 0 where
  pub turned_down : (n : ℕ) → read_file b ≡ refusal n → listing_of_file b ≡ refused_line n
  pub taken : (c : Contents) → read_file b ≡ deck c → listing_of_file b ≡ listing (call.step c call.run_to_end).next
  -- its buffer has room for it, so that nothing is cut
  pub whole : (out : List ℕ) → listing_room ≤ length out → fitting listing_room out (listing_of_file b) ≡ listing_of_file b

-- Demand 2: every answer is the one that the published method gives, as SPEC 1 to 4 read it.
pub record Demand2 : Type 0 where
  pub calls : (d : Deck) → Sound d → (c : call.Call) → called d c ≡ deck_outcome (call.step (contents_of d) c)
  -- the published method by relations (Method.antt): THE tree, the choice of a round, the sweeps, the end
  pub tree : (d : Deck) → Sound d → (t : List Edge) × RunsAreTree d t
  pub round : (d : Deck) → Sound d → RoundOf d
  pub sweeps : (d : Deck) → Sound d → SweepsOf d
  pub end : (d : Deck) → Sound d → EndOf d
  pub questions : (d : Deck) → Sound d → (q : Question) → asked d q ≡ answer_to q (contents_of d)
  -- what the answers are of: the counts, the edges there are, and a point that is not held
  pub counts : (d : Deck) → Sound d
      → asked d of_counts ≡ question.Counts (length (state_of d).pins) (length (state_of d).steiner) (length (points (state_of d)) - 1)
  pub no_edge : (d : Deck) → Sound d → (i : ℕ) → (asked d (of_edge i) ≡ question.NoEdge) ↔ (length (points (state_of d)) - 1 ≤ i)
  pub no_point : (d : Deck) → Sound d → (p : Point) → ¬ Memᴰ p (points (state_of d)) → asked d (of_degree p) ≡ question.Degree 0
  -- a deck that is read has no tails; one that is written and read comes back the same but for its tail, and a full file that is read and written the
  -- same (SPEC 7.6)
  pub read_untailed : ReadUntailed
  pub written_read : WrittenRead
  pub full_written_back : FullWrittenBack
  pub plain_written_full : PlainWrittenFull
  -- a file has four sections exactly if some pin is no sensor, and from 30 to 856 bytes (SPEC 7.5, 7.8)
  pub written_sections : WrittenSections
  pub written_sizes : SoundFits
  -- the kinds follow their pins (KindsFollow.antt)
  pub kinds : (d : Deck) → Sound d → DeckKinds d
  -- setting the tail, and what tails leave as it was (Tails.antt)
  pub tails : (d : Deck) → Sound d → DeckTails d
  -- one column by itself, and the round by its columns (Columns.antt)
  pub columns : (d : Deck) → Sound d → DeckColumns d
  -- the cable of each kind (KindLengths.antt)
  pub lengths : (d : Deck) → Sound d → DeckLengths d
  -- the C entry (SPEC 10.1), for every file and every buffer of any size
  pub planned : (b l : List ℕ) → Entered (read_file b) to_end l
  -- the listing program, for every list of bytes
  pub listed : (b : List ℕ) → ListingOf b
  -- the table of arrows, the arrow from a display to a bay and the glyphs (SPEC 3.3 to 3.5)
  pub arrows : Arrows
  -- the C entry for arrows (SPEC 10.4): its number says what is indicated
  pub displayed : (display bay : Point) (pitch : ℤ) → Numbered display bay pitch

-- What a list of calls starts from (SPEC 6.1): an empty deck or an accepted file, with its contents.
pub data StartDeck : Deck → Contents → Type 0 where
  fresh : StartDeck (deck_of empty_contents) empty_contents
  file : (b : List ℕ) {c : Contents} → read_file b ≡ deck c → StartDeck (reading b).next c

-- Demand 3: one claim about whole lists of calls that change a deck, refused ones too (SPEC 6.2 to 6.4; `AfterCalls` says what holds of the
-- deck after the list, `Bounds` what the program needs besides), and of replay_calls (SPEC 10.2), for every file, every list of calls in
-- bytes and every buffer.
pub record Demand3 : Type 0 where
  pub lists : {d : Deck} {c : Contents} → StartDeck d c → (calls : List call.Call) → AfterCalls (deck_after d calls) (call.contents_after c calls)
  pub replied : {d : Deck} {c : Contents} → StartDeck d c → (calls : List call.Call) → replies d calls ≡ reckoned c calls
  pub bounded : {d : Deck} {c : Contents} → StartDeck d c → (calls : List call.Call) → (let e = call.contents_after c calls in Bounds e.tail e.state)
  pub replayed : (b calls l : List ℕ) → Replayed b calls l
