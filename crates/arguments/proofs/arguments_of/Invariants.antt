-- `arguments::arguments_of` meets its contract. The invariant: the numbers asked for are those so far and those of the words of what is left.
-- The measure: how many bytes are left.
use mathlib.Core.Path.{◌≡◌}
use lib.ListN.{length}
use Rattle.words.specs.Words.{words_of}
use Rattle.arguments.specs.Arguments.{arguments_from, arguments_of}
use Rattle.arguments.proofs.arguments_of.Given as goal

abbrev pub invariant-loop-word : goal.invariant-loop-word
invariant-loop-word l = arguments_of (words_of l.words) ≡ arguments_from l.numbers (words_of l.rest)

abbrev pub decreases-loop-word : goal.decreases-loop-word
decreases-loop-word l = length l.rest
