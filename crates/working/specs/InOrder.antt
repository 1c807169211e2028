-- The working form of a deck and what it stands for.
use Rattle.model.specs.State.{State}
use Rattle.points.specs.Coded as coded
pub use Rattle.working.specs.Held.{all_codes}
use Rattle.working.specs.Held.{HeldInOrder}
use Rattle.working.specs.declared.Working.{Working}

-- The state of a working form.
abbrev pub state_of : Working → State
state_of w = coded.state_of w.points

-- A working form is in order: its codes are arranged, its points are those of its state, and its keys are those of their tree.
abbrev pub InOrder : Working → Type 0
InOrder w = HeldInOrder w.points w.codes w.xs w.ys w.npoints w.keys w.nkeys
