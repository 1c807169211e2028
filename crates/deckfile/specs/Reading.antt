-- What reading a file answers.
use Rattle.std.specs.Prelude.{List, ℕ}
use Rattle.model.specs.Contents.{empty_contents}
use Rattle.model.specs.File.{Read, deck, refusal, read_file}
use Rattle.deck.specs.declared.Deck.{Deck}
use Rattle.deck.specs.declared.Outcome.{Outcome}
use Rattle.calls.specs.declared.Reply.TheVariants.{Done, Refused}
use Rattle.deck.specs.Form.{deck_of}

-- The empty deck where it refuses (SPEC 8.1).
abbrev pub refused_file : ℕ → Outcome
refused_file n = record { next = deck_of empty_contents; reply = Refused n }

-- A file that is taken: its deck, and done.
abbrev pub accepted_deck : Deck → Outcome
accepted_deck d = record { next = d; reply = Done }

unfoldable pub read_outcome : Read → Outcome
read_outcome (deck c) = accepted_deck (deck_of c)
read_outcome (refusal n) = refused_file n

-- What reading a list of bytes answers (SPEC 7, 8.2).
abbrev pub reading : List ℕ → Outcome
reading b = read_outcome (read_file b)
