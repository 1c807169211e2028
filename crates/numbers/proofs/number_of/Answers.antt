-- `numbers::number_of` meets its contract: by the first byte, and by the magnitude of what follows or of the whole word.
use mathlib.Core.Path.{sym, ap, ◌∙◌}
use native.Mathlib.Omega.{arith}
use mir.Syntax.{w32}
use mir.ValLaws.{to_z_pos}
use Rattle.std.proofs.Common.{Some}
use Rattle.arrays.proofs.Signed.{read_is}
use Rattle.numbers.proofs.Digits.{at_most, minus_none, minus_some, plus_none, plus_some}
use Rattle.numbers.proofs.number_of.Goals as goal

pub returns-in_err-magnitude-in-45 : goal.returns-in_err-magnitude-in-45
returns-in_err-magnitude-in-45 c =
    c.from_residual.ensures ∙ minus_none c.args.word.now (omega arith) (omega arith) (sym c.in_err-magnitude-in-45.ensures)

pub negated-requires : goal.negated-requires
negated-requires c = at_most _ _ (sym c.in_ok-magnitude-in-45.ensures)

pub returns-in_err-magnitude-in_default : goal.returns-in_err-magnitude-in_default
returns-in_err-magnitude-in_default c =
    c.from_residual-in_err-magnitude-in_default.ensures
    ∙ plus_none c.args.word.now (λ h e. grind arith) (sym c.in_err-magnitude-in_default.ensures)

pub overflow_cast-result : goal.overflow_cast-result
overflow_cast-result c =
    let h = at_most _ _ (sym c.in_ok-magnitude-in_default.ensures) in
    record { sfits = omega arith }

pub returns-in_ok-magnitude-in-45 : goal.returns-in_ok-magnitude-in-45
returns-in_ok-magnitude-in-45 c =
    ap Some (read_is (record { sfits = c.negated.type_inv }) c.negated.ensures)
    ∙ minus_some c.args.word.now (omega arith) (omega arith) _ (sym c.in_ok-magnitude-in-45.ensures)

pub returns-in_ok-magnitude-in_default : goal.returns-in_ok-magnitude-in_default
returns-in_ok-magnitude-in_default c =
    let h = at_most _ _ (sym c.in_ok-magnitude-in_default.ensures) in
    ap Some (to_z_pos w32 _ (omega arith))
    ∙ plus_some c.args.word.now (λ h e. grind arith) _ (sym c.in_ok-magnitude-in_default.ensures)
