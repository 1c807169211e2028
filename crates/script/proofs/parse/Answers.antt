-- `script::parse` meets its contract: a line by its length and its first byte, and any other by its words.
use native.Mathlib.Omega.{arith}
use Rattle.script.proofs.Lines.{too_long_lem, blank_empty, blank_comment, by_words}
use Rattle.script.proofs.parse.Goals as goal

pub returns-then-line-gt-LINE_LIMIT : goal.returns-then-line-gt-LINE_LIMIT
returns-then-line-gt-LINE_LIMIT c = too_long_lem _ c.if-line-gt-LINE_LIMIT.true

pub returns-in-empty : goal.returns-in-empty
returns-in-empty c = blank_empty _ c.if-line-gt-LINE_LIMIT.false (omega arith)

pub returns-in_default : goal.returns-in_default
returns-in_default c = by_words _ c.if-line-gt-LINE_LIMIT.false (λ e. omega arith) (λ e. omega arith) _ c.by_words.ensures

pub returns-in-empty-2 : goal.returns-in-empty-2
returns-in-empty-2 c = blank_comment _ c.if-line-gt-LINE_LIMIT.false (λ e. omega arith) (omega arith)
