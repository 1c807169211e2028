-- `pin_line::of_text` meets its contract: a byte that is not white space here, or the numbers of the words.
use mathlib.Core.Path.{sym, ◌∙◌}
use Rattle.pin_line.proofs.PinLines.{text_broken, text-plain}
use Rattle.pin_line.proofs.of_text.Goals as goal

pub returns-then-not-all_plain : goal.returns-then-not-all_plain
returns-then-not-all_plain c = text_broken _ (sym c.all_plain.ensures ∙ c.if-not-all_plain.true)

pub returns : goal.returns
returns c = let plain = sym c.all_plain.ensures ∙ c.if-not-all_plain.false in
    c.of_numbers.ensures ∙ text-plain _ plain _ c.arguments_of.ensures
