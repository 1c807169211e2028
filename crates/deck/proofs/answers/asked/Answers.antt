-- `deck::answers::asked` meets its contract: the check, then the question on the deck in working form.
use mathlib.Core.Path.{ap, ◌∙◌}
use Rattle.questions.specs.declared.Answer.TheVariants.{Refused}
use Rattle.deck.proofs.Calls.{checked_valid}
use Rattle.deck.proofs.Questions.{asked_unsound, asked_by}
use Rattle.deck.proofs.answers.asked.Goals as goal

pub returns-in_default : goal.returns-in_default
returns-in_default g c = λ q f. ap Refused c.from.ensures ∙ asked_unsound c.args.d q c.in_default.ensures

pub question-requires : goal.question-requires
question-requires g c = c.requires c.in-Some.w (checked_valid c.args.d c.in-Some.w c.in-Some.ensures)

pub returns : goal.returns
returns g c = λ q f. f c.in-Some.w c.question.result c.question.ensures ∙ asked_by c.args.d c.in-Some.w c.in-Some.ensures q
