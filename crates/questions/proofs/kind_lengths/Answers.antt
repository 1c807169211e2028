-- `questions::kind_lengths` meets its contract: what was measured is the model's.
use mathlib.Core.Path.{ap}
use mathlib.Core.List.{List}
use Prim.Native.Nat.{ℕ}
use lib.ListN.{get_or}
use Rattle.questions.specs.declared.Answer.TheVariants.{Kinds}
use Rattle.questions.proofs.kind_lengths.Goals as goal

pub returns : goal.returns
returns c = ap (λ (l : List ℕ). Kinds (get_or l 0 0) (get_or l 1 0) (get_or l 2 0)) c.kind_lengths-lengths.ensures
