-- What an entry for other programs answers, and what it leaves in the caller's buffer, by the model alone: a deck is read, a list of
-- calls is made on it, and it is written.
use Rattle.std.specs.Prelude.{◌≡◌, List, ◌++◌, ℕ, Result, Ok, Err, ◌≤◌, ◌<◌, length, drop}
use Rattle.model.specs.Contents.{Contents}
use Rattle.model.specs.Call.{Call, contents_after}
use Rattle.model.specs.File.{Read, deck, refusal, file_of}
use Rattle.deckfile.specs.Writing.{stored}

-- A deck read, changed by calls and written into the buffer l: what `refused` says of the refusal, or `done` of the file.
unfoldable pub read_and_written : {A : Type 0} → Read → List Call → List ℕ → (ℕ → A) → (List ℕ → A) → A
read_and_written (deck c) calls l refused done = stored (contents_after c calls) l refused done
read_and_written (refusal n) calls l refused done = refused n

-- The number that the caller gets: how many bytes were written, or the refusal (SPEC 10.1).
abbrev pub answer_number : Read → List Call → List ℕ → ℕ
answer_number r calls l = read_and_written r calls l (λ n. n) length

-- The file in front and every byte past it as it was; a refusal keeps every byte.
abbrev pub answer_buffer : Read → List Call → List ℕ → List ℕ
answer_buffer r calls l = read_and_written r calls l (λ _. l) (λ file. file ++ drop (length file) l)

-- What writing answers, as one number: the length written, or the refusal's number.
unfoldable pub written_number : Result ℕ ℕ → ℕ
written_number (Err n) = n
written_number (Ok n) = n

-- The claim on an entry (SPEC 10), for every start (a file read, or no file), every list of calls and every buffer.
pub record Entered (r : Read) (calls : List Call) (l : List ℕ) : Type 0 where
  -- a file refused: its number, and every byte as it was
  pub turned_down : (n : ℕ) → r ≡ refusal n → (answer_number r calls l ≡ n) × (answer_buffer r calls l ≡ l)
  -- a file taken, and room for the file after the calls: its length, and exactly its bytes in front
  pub fits : (c : Contents) → r ≡ deck c → length (file_of (contents_after c calls)) ≤ length l
      → (answer_number r calls l ≡ length (file_of (contents_after c calls)))
      × (answer_buffer r calls l ≡ file_of (contents_after c calls) ++ drop (length (file_of (contents_after c calls))) l)
  -- no room for it: 12, and every byte as it was
  pub short : (c : Contents) → r ≡ deck c → length l < length (file_of (contents_after c calls)) → (answer_number r calls l ≡ 12)
      × (answer_buffer r calls l ≡ l)
  -- so a number below 30 is a refusal
  pub least : (c : Contents) → r ≡ deck c → 30 ≤ length (file_of (contents_after c calls))
