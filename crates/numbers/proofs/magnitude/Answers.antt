-- `numbers::magnitude` meets its contract. The invariant: the answer is the one for the digits left, after digits of the value so far, which is
-- at most `most`.
use mathlib.Core.Path.{sym, ◌∙◌}
use native.Mathlib.Omega.{arith}
use Rattle.std.proofs.Common.{rules, tests}
use Rattle.numbers.proofs.Digits.{read_all, read_none, read_other, read_large, read_on, read_end}
use Rattle.numbers.proofs.magnitude.Goals as goal

pub returns-then-is_empty : goal.returns-then-is_empty
returns-then-is_empty c = read_none _ _ (search (rules, tests))

pub loop-b-init : goal.loop-b-init
loop-b-init c = (omega arith, read_all _ _ (search (rules, tests)))

pub returns-then-not-is_ascii_digit : goal.returns-then-not-is_ascii_digit
returns-then-not-is_ascii_digit c = let l = c.loop-b in
    read_other _ _ l.value l.b-index l.invariant.1 c.loop-b-test.true (sym c.is_ascii_digit.ensures.value ∙ c.if-not-is_ascii_digit.true)

pub returns-then-value-most : goal.returns-then-value-most
returns-then-value-most c = let l = c.loop-b in
    read_large _ _ l.value l.b-index l.invariant.1 c.loop-b-test.true (sym c.is_ascii_digit.ensures.value ∙ c.if-not-is_ascii_digit.false)
    _ c.from.ensures c.if-value-most.true

pub loop-b-preserved : goal.loop-b-preserved
loop-b-preserved c = let l = c.loop-b in (
  c.if-value-most.false,
  read_on _ _ l.value l.b-index l.invariant.1 c.loop-b-test.true (sym c.is_ascii_digit.ensures.value ∙ c.if-not-is_ascii_digit.false)
      _ c.from.ensures c.if-value-most.false,
)

pub returns : goal.returns
returns c = read_end _ _ c.loop-b.value c.loop-b.b-index c.loop-b.invariant.1 c.loop-b-test.false
