-- `packing::line` meets its contract: nothing where there is a fault, and else by what the line asks for.
use mathlib.Core.Path.{sym, ◌∙◌}
use borrow.Author.Rules.{rules}
use Rattle.packing.proofs.Steps.{number_next, line_passed, line_error, line_pin, line-number, line-next, line-after-fault}
use Rattle.packing.proofs.line.Goals as goal

pub returns-then-is_some : goal.returns-then-is_some
returns-then-is_some c = line-after-fault c.args.p _ c.requires (sym c.is_some.ensures ∙ c.if-is_some.true)

pub returns-in-Passed : goal.returns-in-Passed
returns-in-Passed c =
    let d = c.args.p.deck in
    let none = sym c.is_some.ensures ∙ c.if-is_some.false in
    line-next c.args.p _ none
    (line-number d _ (c.saturating_add-lines.ensures ∙ number_next _ (search rules))
    (line_passed d _ _ c.requires.valid none (sym c.in-Passed.ensures)))

pub returns-in-Error : goal.returns-in-Error
returns-in-Error c =
    let d = c.args.p.deck in
    line-next c.args.p _ (sym c.is_some.ensures ∙ c.if-is_some.false)
    (line-number d _ (c.saturating_add-lines.ensures ∙ number_next _ (search rules))
    (line_error d _ _ c.requires.valid (sym c.in-Error.ensures)))

pub returns-in-Pin : goal.returns-in-Pin
returns-in-Pin c =
    let d = c.args.p.deck in
    line-next c.args.p _ (sym c.is_some.ensures ∙ c.if-is_some.false)
    (line-number d _ (c.saturating_add-lines.ensures ∙ number_next _ (search rules))
    (line_pin d _ _ _ _ _ (search rules) (search rules) (sym c.in-Pin.ensures) c.add_pin.ensures))
