-- `octants::octant_between` meets its contract: each arm is a half turn, told by the order by y and then by x, in which the
-- tests counted are the rays that the difference has reached.
use mathlib.Core.Path.{sym, ap, ◌∙◌}
use Prim.Native.Nat.{ℕ, ◌+◌}
use native.Mathlib.Omega.{arith}
use Rattle.octants.proofs.Between.{between_upper, between_under, between_none}
use Rattle.octants.proofs.octant_between.Goals as goal

pub overflow_add-result : goal.overflow_add-result
overflow_add-result c = omega (arith, c.passes-below.ensures.upper_bound)

pub returns-then-is_lower : goal.returns-then-is_lower
returns-then-is_lower c = let s = c.args in
    let above =
    simp (
      c.from.ensures,
      c.from-2.ensures,
      c.from-3.ensures,
      c.from-4.ensures,
      c.from-5.ensures,
      c.from-6.ensures,
      c.from-7.ensures,
      c.from-8.ensures,
    ) at c.passes-above.ensures.value in
    record {
      value = above ∙ between_upper s.ax s.ay s.bx s.by (sym c.is_lower.ensures ∙ c.if-is_lower.true);
      upper_bound = omega (arith, c.passes-above.ensures.upper_bound);
    }

pub returns-then-is_lower-2 : goal.returns-then-is_lower-2
returns-then-is_lower-2 c = let s = c.args in
    let below =
    simp (
      c.from.ensures,
      c.from-2.ensures,
      c.from-3.ensures,
      c.from-4.ensures,
      c.from-5.ensures,
      c.from-6.ensures,
      c.from-7.ensures,
      c.from-8.ensures,
    ) at c.passes-below.ensures.value in
    record {
      value = ap (λ (n : ℕ). n + 4) below
          ∙ between_under s.ax s.ay s.bx s.by (sym c.is_lower-else-is_lower.ensures ∙ c.if-is_lower-2.true);
      upper_bound = omega (arith, c.passes-below.ensures.upper_bound);
    }

pub returns-else-is_lower-2 : goal.returns-else-is_lower-2
returns-else-is_lower-2 c = let s = c.args in
    record {
      value = between_none s.ax s.ay s.bx s.by (sym c.is_lower.ensures ∙ c.if-is_lower.false)
          (sym c.is_lower-else-is_lower.ensures ∙ c.if-is_lower-2.false);
      upper_bound = omega arith;
    }
