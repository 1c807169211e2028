-- `questions::counts` meets its contract: what was measured is the model's.
use mathlib.Core.Path.{ap}
use Rattle.measures.specs.declared.Measures.{Measures}
use Rattle.questions.specs.declared.Answer.TheVariants.{Counts}
use Rattle.questions.proofs.counts.Goals as goal

pub returns : goal.returns
returns c = ap (λ (m : Measures). Counts m.pins m.steiner m.edges) c.measure-m.ensures
