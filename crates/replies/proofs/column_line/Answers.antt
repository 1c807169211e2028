-- `replies::column_line` meets its contract: the word for none, or the line of the candidate, whose numbers are read back from their bits.
use mathlib.Core.Path.{sym, ap}
use borrow.Author.Rules.{rules}
use Rattle.arrays.proofs.Signed.{read-three}
use Rattle.arrays.proofs.paste.Parts.{pasted_same}
use Rattle.replies.specs.Replies.{candidate_text, column_text}
use Rattle.replies.proofs.column_line.Goals as goal

pub returns-in-None : goal.returns-in-None
unfolding column_text
returns-in-None c = pasted_same (sym (ap column_text c.in-None.is)) c.put_items.ensures

pub returns-in-Some : goal.returns-in-Some
unfolding column_text
returns-in-Some c = pasted_same (sym (ap column_text c.in-Some.is))
    (pasted_same (read-three candidate_text _ _ _ (search rules) (search rules) (search rules))
    c.candidate_line.ensures)
