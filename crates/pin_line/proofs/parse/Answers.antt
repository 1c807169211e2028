-- `pin_line::parse` meets its contract: a comment, a line that is too long, or the text of the line.
use mathlib.Core.Path.{sym, ap, ◌∙◌}
use Rattle.pin_line.specs.PinLines.{of_text}
use Rattle.pin_line.proofs.PinLines.{line_comment, line-long, line-text}
use Rattle.pin_line.proofs.parse.Goals as goal

pub returns-then-is_comment : goal.returns-then-is_comment
returns-then-is_comment c = line_comment _ (sym c.is_comment.ensures ∙ c.if-is_comment.true)

pub returns-then-line-gt-LINE_LIMIT : goal.returns-then-line-gt-LINE_LIMIT
returns-then-line-gt-LINE_LIMIT c = line-long _ (sym c.is_comment.ensures ∙ c.if-is_comment.false) c.if-line-gt-LINE_LIMIT.true

pub returns : goal.returns
returns c = let other = sym c.is_comment.ensures ∙ c.if-is_comment.false in
    c.of_text.ensures ∙ ap of_text c.text_of.ensures ∙ line-text _ other c.if-line-gt-LINE_LIMIT.false
