-- The claim on lists of calls in bytes (SPEC 10.2), on what `replay_calls` answers and leaves by its contract.
use Rattle.std.specs.Prelude.{◌≡◌, List, ℕ}
use Rattle.model.specs.Contents.{Contents}
use Rattle.model.specs.Call.{contents_after}
use Rattle.model.specs.File.{deck, file_of}
use Rattle.deck.specs.Form.{deck_of, without_tail}
use Rattle.deck.specs.Session.{deck_after}
use Rattle.deckfile.specs.Reading.{reading, accepted_deck}
use Rattle.deckfile.specs.Answer.{Entered}
use Rattle.replay.specs.Calls.{calls_of, start_of}

-- For every file, or no bytes, every list of bytes and every buffer: what every entry does at the calls that the bytes say; and the
-- file that it writes is read as the deck after the calls, but for its tail.
pub record Replayed (b calls l : List ℕ) : Type 0 where
  pub entered : Entered (start_of b) (calls_of calls) l
  pub back : (c : Contents) → start_of b ≡ deck c
      → reading (file_of (contents_after c (calls_of calls))) ≡ accepted_deck (without_tail (deck_after (deck_of c) (calls_of calls)))
