-- `arguments::arguments_of` meets its contract. The invariant: the numbers asked for are those so far and those of the words of what is left.
-- The measure: how many bytes are left.
use mathlib.Core.Path.{◌∙◌}
use borrow.Author.Rules.{rules}
use Rattle.arrays.proofs.Signed.{read_one}
use Rattle.arguments.specs.Arguments.{appended}
use Rattle.arguments.proofs.Numbers.{arguments_are, numbers_none, numbers_full, numbers_more, numbers_end}
use Rattle.arguments.proofs.arguments_of.Goals as goal

pub loop-word-init : goal.loop-word-init
loop-word-init c = arguments_are _

pub returns-in_err-number_of : goal.returns-in_err-number_of
returns-in_err-number_of c = c.from_residual.ensures ∙ numbers_none _ _ c.loop-word.invariant c.in-Some.ensures c.in_err-number_of.ensures

pub returns-in_err-numbers : goal.returns-in_err-numbers
returns-in_err-numbers c = c.from_residual-in_err-numbers.ensures
    ∙ numbers_full _ _ c.loop-word.invariant c.in-Some.ensures _ c.in_ok-number_of.ensures
    (c.in_err-numbers.ensures ∙ read_one (appended c.loop-word.numbers) (search rules))

pub loop-word-preserved : goal.loop-word-preserved
loop-word-preserved c = numbers_more _ _ c.loop-word.invariant c.in-Some.ensures _ c.in_ok-number_of.ensures _
    (c.in_ok-numbers.ensures ∙ read_one (appended c.loop-word.numbers) (search rules))

pub returns : goal.returns
returns c = numbers_end _ _ c.loop-word.invariant c.in_default.ensures
