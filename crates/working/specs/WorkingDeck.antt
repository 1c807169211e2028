-- A deck in working form, and the contents that it stands for.
use Rattle.std.specs.Prelude.{take}
use Rattle.model.specs.Contents.{Contents, with_kinds, with_tail}
use Rattle.working.specs.declared.deck.WorkingDeck.{WorkingDeck}
use Rattle.working.specs.InOrder.{state_of}

-- The contents of the deck: the state of its form, as many kinds as there are pins, and the tail.
abbrev pub contents_of : WorkingDeck → Contents
contents_of d = with_tail d.tail (with_kinds (state_of d.form) (take d.form.points.npins d.kinds))
