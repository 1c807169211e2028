-- What the questions on a deck answer.
use Rattle.arrays.specs.Test.{if}
use Rattle.questions.specs.declared.Answer.{Answer}
use Rattle.questions.specs.Answers.{Question, answer_to}
use Rattle.questions.specs.declared.Answer.TheVariants.{Refused}
use Rattle.deck.specs.declared.Deck.{Deck}
use Rattle.deck.specs.Form.{contents_of, sound}

-- A question on any deck at all (SPEC 4.6, 8.3): refused by 11 where it is not sound, else the answer for its contents.
unfoldable pub asked : Deck → Question → Answer
asked d q = if (sound d) (λ _. answer_to q (contents_of d)) (λ _. Refused 11)
