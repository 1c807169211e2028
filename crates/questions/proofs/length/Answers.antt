-- `questions::length` meets its contract: what was measured is the model's.
use mathlib.Core.Path.{ap}
use Rattle.measures.specs.declared.Measures.{Measures}
use Rattle.questions.specs.declared.Answer.TheVariants.{Length}
use Rattle.questions.proofs.length.Goals as goal

pub returns : goal.returns
returns c = ap (λ (m : Measures). Length m.length) c.measure.ensures
