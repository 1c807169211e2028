-- Taking the bytes of a script plays its lines: the law of all inputs, for what a line does to a deck.
use Rattle.lines.proofs.Input.{lines-taken}
use Rattle.deck.specs.declared.Deck.{Deck}
use Rattle.deckplay.specs.Script.{after_line, LinesPlayed}

pub lines-played : LinesPlayed
lines-played d input = lines-taken Deck after_line d input
