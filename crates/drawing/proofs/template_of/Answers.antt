-- `drawing::template_of` meets its contract: by the number of the symbol.
use native.Mathlib.Omega.{arith}
use Rattle.drawing.proofs.Symbols.{kind_is, tap_is}
use Rattle.drawing.proofs.template_of.Goals as goal

pub returns-in-0-clause-text : goal.returns-in-0-clause-text
returns-in-0-clause-text c = kind_is 0 _ c.in-0.is

pub returns-in-1-clause-text : goal.returns-in-1-clause-text
returns-in-1-clause-text c = kind_is 1 _ c.in-1.is

pub returns-in-2-clause-text : goal.returns-in-2-clause-text
returns-in-2-clause-text c = kind_is 2 _ c.in-2.is

pub returns-in_default-clause-text : goal.returns-in_default-clause-text
returns-in_default-clause-text c = tap_is _ (λ e. omega arith) (λ e. omega arith) (λ e. omega arith)
