-- `deck::check::check` meets its contract: the tail is not too long, the points are those of a valid state, the kinds are kinds, and the rest is that of
-- the deck of all three.
use mathlib.Core.Path.{sym, ◌∙◌, subst⁻¹}
use native.Mathlib.Omega.{arith}
use borrow.Author.Rules.{rules}
use Rattle.arrays.proofs.Test.{of_true, false_of}
use Rattle.deck.specs.Form.{sound}
use Rattle.deck.specs.Check.{Checks}
use Rattle.deck.proofs.check.Parts.{refuted, tail_fail, points_fail, kinds_fail, rest_fail, rest_pass}
use Rattle.deck.proofs.check.check.Goals as goal

pub returns-then-d-gt-LONGEST_TAIL : goal.returns-then-d-gt-LONGEST_TAIL
returns-then-d-gt-LONGEST_TAIL c = false_of (sound c.args.d) (tail_fail _ c.if-d-gt-LONGEST_TAIL.true)

pub returns-in_err-form : goal.returns-in_err-form
returns-in_err-form c = subst⁻¹ (Checks (sound c.args.d) c.args.d) c.from_residual.ensures
    (false_of (sound c.args.d) (points_fail c.args.d c.in_err-form.ensures))

pub returns-then-not-knows_kinds : goal.returns-then-not-knows_kinds
returns-then-not-knows_kinds c = false_of (sound c.args.d) (kinds_fail _ (refuted c.knows_kinds.ensures c.if-not-knows_kinds.true))

pub returns-then-not-same_rest : goal.returns-then-not-same_rest
returns-then-not-same_rest c = false_of (sound c.args.d)
    (rest_fail c.args.d c.in_ok-form.form c.in_ok-form.ensures c.if-d-gt-LONGEST_TAIL.false _ c.from.ensures
    (λ h. let same = c.same_rest.ensures.1 h in grind (arith, c.if-not-same_rest.true)))

pub returns : goal.returns
returns c = rest_pass c.args.d c.in_ok-form.form c.in_ok-form.ensures c.if-d-gt-LONGEST_TAIL.false (search rules)
    (of_true (sym c.knows_kinds.ensures ∙ c.if-not-knows_kinds.false)) _ c.from.ensures
    (c.same_rest.ensures.0 c.if-not-same_rest.false)
