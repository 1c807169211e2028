-- `calls::add_at` meets its contract: the tests for 15, 8 and 10 in turn, else the pin joins, and its kind with it.
use mathlib.Core.Path.{sym, ◌∙◌, subst}
use Prim.Native.Nat.{ℕ, ◌≤◌, ◌<◌}
use native.Mathlib.Omega.{arith}
use Rattle.rounds.proofs.Round.{point_room_lem}
use Rattle.calls.proofs.PointCalls.{in_range_lem, refused_is, done_is, add-no_kind, add-there, add_full, add_done, pin_there_lem, pin_count_lem}
use Rattle.calls.proofs.add_at.Goals as goal

pub returns-then-unknown : goal.returns-then-unknown
returns-then-unknown c = refused_is c.args.d _ 15
    (add-no_kind _ _ _ (in_range_lem _ c.requires.t) (omega (arith, c.from.ensures, c.if-unknown.true))) _ c.refuse.ensures

pub returns-then-there : goal.returns-then-there
returns-then-there c = refused_is c.args.d _ 8
    (add-there _ _ _ (in_range_lem _ c.requires.t) (omega (arith, c.from.ensures, c.if-unknown.false))
    (sym (pin_there_lem c.args.d.form _ c.requires.t) ∙ sym c.has-there.ensures ∙ c.if-there.true)) _ c.refuse-then-there.ensures

pub returns-then-full : goal.returns-then-full
returns-then-full c = refused_is c.args.d _ 10
    (add_full _ _ _ (in_range_lem _ c.requires.t) (omega (arith, c.from.ensures, c.if-unknown.false))
    (sym (pin_there_lem c.args.d.form _ c.requires.t) ∙ sym c.has-there.ensures ∙ c.if-there.false)
    (subst (λ (z : ℕ). 64 ≤ z) (pin_count_lem c.args.d.form) c.if-full.true)) _ c.refuse-then-full.ensures

-- The kind fits in a byte.
pub overflow_cast-given : goal.overflow_cast-given
overflow_cast-given c = record { fits = omega (arith, c.from.ensures, c.if-unknown.false) }

pub insert-next-requires : goal.insert-next-requires
insert-next-requires c = record {
  t = c.requires.t;
  npins_lt_max_pins = (c.if-full.false, point_room_lem c.args.d.form c.requires.valid_contents.state);
}

pub returns : goal.returns
returns c = done_is c.args.d _ _ c.insert-next.result _ c.insert-next.ensures c.follow.result c.follow.ensures
    (add_done _ _ _ (in_range_lem _ c.requires.t) (omega (arith, c.from.ensures, c.if-unknown.false))
    (sym (pin_there_lem c.args.d.form _ c.requires.t) ∙ sym c.has-there.ensures ∙ c.if-there.false)
    (subst (λ (z : ℕ). z < 64) (pin_count_lem c.args.d.form) c.if-full.false))
