-- What a program prints for a deck file (SPEC 9.8, 9.9): a text of its deck on standard output, or the line of its refusal on standard error.
use Rattle.std.specs.Prelude.{◌≡◌, Bool, true, false, List, ℕ, ◌≤◌, length, Result, Ok, Err, is_err}
use Rattle.arrays.specs.Paste.{Pasted}
use Rattle.model.specs.Contents.{Contents}
use Rattle.model.specs.File.{Read, deck, refusal}
use Rattle.model.specs.Listing.{refused_line}
use Rattle.ascii.specs.Text.{fitting}

-- Whether a file is refused.
abbrev pub is_refused : Read → Bool
is_refused (deck c) = false
is_refused (refusal n) = true

-- What is printed: what `text` makes of the deck, or the line of the refusal.
abbrev pub printed_text : (Contents → List ℕ) → Read → List ℕ
printed_text text (deck c) = text c
printed_text text (refusal n) = refused_line n

-- How long it is, on whichever stream.
abbrev pub printed_size : Result ℕ ℕ → ℕ
printed_size (Ok n) = n
printed_size (Err n) = n

-- It stands at the front of a slice that has the room, and r says how long it is and where it is to be printed; without the room nothing is.
pub record Prints (room : ℕ) (text : Contents → List ℕ) (read : Read) (before after : List ℕ) (r : Result ℕ ℕ) : Type 0 where
  pub stream : room ≤ length before → is_err r ≡ is_refused read
  pub put : Pasted (fitting room before (printed_text text read)) before after 0 (printed_size r)
