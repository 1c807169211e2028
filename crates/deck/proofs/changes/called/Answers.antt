-- `deck::changes::called` meets its contract: the check, then the call on the deck in working form.
use mathlib.Core.Path.{ap, ◌∙◌}
use Prim.Native.Nat.{ℕ}
use Rattle.deck.specs.Calls.{refused_outcome}
use Rattle.deck.proofs.Calls.{checked_valid, called_unsound, called_by}
use Rattle.deck.proofs.changes.called.Goals as goal

pub returns-in_default : goal.returns-in_default
returns-in_default g c = λ d f. ap (λ (n : ℕ). refused_outcome c.args.d n) c.from.ensures ∙ called_unsound c.args.d d c.in_default.ensures

pub make-requires : goal.make-requires
make-requires g c = c.requires c.in-Some.w (checked_valid c.args.d c.in-Some.w c.in-Some.ensures)

pub returns : goal.returns
returns g c = λ d f. c.from-2.ensures ∙ called_by c.args.d c.in-Some.w c.in-Some.ensures d c.make.result (f c.in-Some.w c.make.result c.make.ensures)
