-- `calls::withdraw_at` meets its contract: the test for 9, else the pin leaves, and its kind with it.
use mathlib.Core.Path.{sym, ◌∙◌}
use Rattle.calls.proofs.PointCalls.{refused_is, done_is, withdraw_none, withdraw-done, pin_there_lem}
use Rattle.calls.proofs.withdraw_at.Goals as goal

pub returns-then-not-has : goal.returns-then-not-has
returns-then-not-has c =
    refused_is c.args.d _ 9 (withdraw_none _ _ (sym (pin_there_lem c.args.d.form _ c.requires.t) ∙ sym c.has.ensures ∙ c.if-not-has.true))
    _ c.refuse.ensures

pub returns : goal.returns
returns c = done_is c.args.d _ _ c.remove-next.result _ c.remove-next.ensures c.follow.result c.follow.ensures
    (withdraw-done _ _ (sym (pin_there_lem c.args.d.form _ c.requires.t) ∙ sym c.has.ensures ∙ c.if-not-has.false))
