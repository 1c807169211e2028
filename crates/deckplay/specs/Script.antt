-- A script (SPEC 9.3, 9.5): the deck that its lines leave.
use Rattle.std.specs.Prelude.{◌≡◌, List, [], ℕ}
use Rattle.lines.specs.Lines.{lines_from, taken_all, state_after}
use Rattle.deck.specs.declared.Deck.{Deck}
use Rattle.answer.specs.Play.{played}

-- What a line does to a deck: it is played.
abbrev pub after_line : Deck → List ℕ → Deck
after_line d line = (played d line).next

-- The claim: taking the bytes of an input plays its lines, each on the deck of the one before, and leaves what stands behind the last.
abbrev pub LinesPlayed : Type 0
LinesPlayed =
    (d : Deck) (input : List ℕ) → let ls = lines_from [] input in
    taken_all after_line (record { state = d; line = [] }) input ≡ record { state = state_after after_line d ls.whole; line = ls.rest }
