-- The rows of the table on tails, each by computation, and the files of the last contents of its rows of calls.
use mathlib.Core.Path.{refl}
use Rattle.arrays.specs.Set.{Each}
use Rattle.model.specs.Decks.{Holds, Filed, play, filed, lengths_of}
use Rattle.model.specs.TableTail.{tail_table, tail_of_four, tail_of_five, swept_with_tails, displays_with_tails}

pub tails_hold : Each Holds tail_table
unfolding play lengths_of tail_table tail_of_four tail_of_five swept_with_tails displays_with_tails
tails_hold = (refl, (refl, (refl, (refl, tt))))

pub tails-filed : Each Filed tail_table
unfolding filed tail_table tail_of_four tail_of_five swept_with_tails displays_with_tails
tails-filed = (refl, (refl, (refl, (refl, tt))))
