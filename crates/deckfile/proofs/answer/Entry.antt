-- What an entry answers: the refusal of the file, or what writing the deck after the calls answers. A deck that is read is that of
-- valid contents, calls lead on to such a deck (`after-deck`), and writing it is the model's.
use mathlib.Core.Path.{◌≡◌, refl, sym, ap, ◌∙◌, subst⁻¹}
use mathlib.Core.Bool.{Bool, true, false}
use mathlib.Core.List.{List, ◌++◌}
use Prim.Native.Nat.{ℕ}
use native.Mathlib.Omega.{arith}
use lib.Dec.{leb}
use Rattle.std.specs.Prelude.{Result, Ok, Err}
use lib.ListN.{length, drop}
use borrow.Author.Tests.{le-leb, lt-leb}
use Rattle.arrays.specs.Test.{if}
use Rattle.model.specs.Contents.{Contents, ValidContents}
use Rattle.model.specs.Call.{Call, contents_after}
use Rattle.model.specs.File.{Read, deck, refusal, file_of}
use Rattle.model.proofs.Step.{step-valid, after-valid}
use Rattle.model.proofs.FileAnswer.{Possible, taken, possible_valid}
use Rattle.model.proofs.FileSize.{file_size_lem}
use Rattle.model.proofs.FileRoundTrip.{written_read_lem}
use Rattle.working.specs.WorkingDeck.{contents_of}
use Rattle.calls.specs.declared.Reply.TheVariants as reply
use Rattle.calls.specs.declared.Changed.{Changed}
use Rattle.working.specs.declared.deck.WorkingDeck.{WorkingDeck}
use Rattle.calls.specs.Changes.{ChangedBy}
use Rattle.deck.specs.declared.Deck.{Deck}
use Rattle.deck.specs.declared.Outcome.{Outcome}
use Rattle.deck.specs.Form.{deck_of, without_tail}
use Rattle.deck.specs.Session.{deck_after}
use Rattle.deck.proofs.Form.{contents-deck}
use Rattle.deck.proofs.Session.{valid_passes, after-deck}
use Rattle.deckfile.specs.Reading.{read_outcome, reading, accepted_deck}
use Rattle.deckfile.specs.Writing.{stored, stored_answer, stored_buffer, written, buffer_after}
use Rattle.deckfile.proofs.Stored.{write-stored}
use Rattle.deckfile.specs.Answer.{read_and_written, answer_number, answer_buffer, written_number, Entered}

-- The answer of storing, as one number.
pub number-stored : (c : Contents) (l : List ℕ) → written_number (stored_answer c l) ≡ stored c l (λ n. n) length
unfolding written_number
number-stored c l = go (leb (length (file_of c)) (length l))
  where
    go : (t : Bool) → written_number (if t (λ _. Ok (length (file_of c))) (λ _. Err 12)) ≡ if t (λ _. length (file_of c)) (λ _. 12)
    go true = refl
    go false = refl

-- Writing the deck of valid contents.
module _ (c : Contents) (v : ValidContents c) (l : List ℕ) where
  writes : (stored_answer c l ≡ written (deck_of c) l) × (stored_buffer c l ≡ buffer_after (deck_of c) l)
  writes = write-stored (deck_of c) l (valid_passes c v) (sym (contents-deck c v)) (refl, refl)

-- A deck was read: `last` is the deck after the calls, m and b what writing it answers and leaves.
pub answer-deck : (r : Read) → Possible r → (calls : List Call) (l : List ℕ) {d last : Deck} → read_outcome r ≡ accepted_deck d
    → last ≡ deck_after d calls → {m : ℕ} {b : List ℕ}
    → m ≡ written_number (written last l) → b ≡ buffer_after last l → (m ≡ answer_number r calls l) × (b ≡ answer_buffer r calls l)
unfolding read_and_written read_outcome
answer-deck (deck c) (taken v) calls l e is em eb =
    let q = is ∙ ap (λ (o : Outcome). deck_after o.next calls) (sym e) ∙ after-deck calls c v in
    let w = after-valid calls c v in
    let written = writes (contents_after c calls) w l in
    (rw q at em ∙ ap written_number (sym written.0) ∙ number-stored (contents_after c calls) l, rw q at eb ∙ sym written.1)
answer-deck (refusal k) p calls l e is em eb =
    let f : reply.Refused k ≡ reply.Done = ap (λ (o : Outcome). o.reply) e in
    let z : ◌≡◌ {A = ℕ} 0 1 = cc in
    absurd (omega arith)

-- A file that was read has the deck of valid contents.
pub taken_valid : (r : Read) → Possible r → {c : Contents} → r ≡ deck c → ValidContents c
taken_valid r p e = possible_valid r p _ e

-- The refusal of a file.
pub read-refused : (r : Read) (calls : List Call) (l : List ℕ) {n : ℕ} → r ≡ refusal n
    → (n ≡ answer_number r calls l) × (l ≡ answer_buffer r calls l)
unfolding read_and_written
read-refused r calls l e = rw e (refl, refl)

-- A call on a deck of valid contents in working form leaves one.
pub changed_valid : {w : WorkingDeck} {c : Call} {r : Changed} → ValidContents (contents_of w) → ChangedBy w c r
    → ValidContents (contents_of r.working)
changed_valid {w} {c} v by = subst⁻¹ ValidContents by.next (step-valid (contents_of w) c v)

pub answer-stored : (r : Read) (calls : List Call) (l : List ℕ) {c d : Contents} → r ≡ deck c
    → d ≡ contents_after c calls → {a : Result ℕ ℕ} {m : ℕ} {b : List ℕ}
    → m ≡ written_number a → (a ≡ stored_answer d l) × (b ≡ stored_buffer d l) → (m ≡ answer_number r calls l) × (b ≡ answer_buffer r calls l)
unfolding read_and_written
answer-stored r calls l {c} {d} e q em w = rw e rw (sym q) (em ∙ ap written_number w.0 ∙ number-stored d l, w.1)

-- The file after the calls, by whether there is room for it.
module _ (c : Contents) (calls : List Call) (l : List ℕ) where
  abbrev file : List ℕ
  file = file_of (contents_after c calls)

  by_room : {t : Bool} → leb (length file) (length l) ≡ t
      → (answer_number (deck c) calls l ≡ if t (λ _. length file) (λ _. 12))
      × (answer_buffer (deck c) calls l ≡ if t (λ _. file ++ drop (length file) l) (λ _. l))
  unfolding read_and_written
  by_room e =
      (ap (λ (t : Bool). if t (λ _. length file) (λ _. 12)) e, ap (λ (t : Bool). if t (λ _. file ++ drop (length file) l) (λ _. l)) e)

pub entered : (r : Read) → Possible r → (calls : List Call) (l : List ℕ) → Entered r calls l
unfolding read_and_written
entered r p calls l =
    record {
      turned_down = λ n e. rw e (refl, refl);
      fits = λ c e h. rw e (by_room c calls l (le-leb (length (file c calls l)) (length l) h));
      short = λ c e h. rw e (by_room c calls l (lt-leb (length (file c calls l)) (length l) h));
      least = λ c e. (file_size_lem (contents_after c calls) (after-valid calls c (possible_valid r p c e))).0;
    }

-- The file after the calls is read as the deck after the calls, without its tail.
pub answer-read : (c : Contents) → ValidContents c → (calls : List Call)
    → reading (file_of (contents_after c calls)) ≡ accepted_deck (without_tail (deck_after (deck_of c) calls))
unfolding read_outcome deck_of
answer-read c v calls =
    ap read_outcome (written_read_lem (contents_after c calls) (after-valid calls c v))
    ∙ ap (λ (z : Deck). accepted_deck (without_tail z)) (sym (after-deck calls c v))
