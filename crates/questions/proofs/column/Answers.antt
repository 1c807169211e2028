-- `questions::column` meets its contract: what the column of the working form answers.
use mathlib.Core.Path.{ap, ◌∙◌}
use lib.IntN.{ℤ}
use Rattle.arrays.proofs.Signed.{read_one}
use Rattle.working.specs.WorkingDeck.{contents_of}
use Rattle.questions.specs.declared.Answer.TheVariants.{Column}
use Rattle.questions.specs.Answers.{column_at}
use Rattle.questions.proofs.column.Goals as goal

pub returns : goal.returns
returns c = ap Column c.column.ensures ∙ read_one (λ (x : ℤ). column_at x (contents_of c.args.d)) c.ranges.x
