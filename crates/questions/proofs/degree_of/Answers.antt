-- `questions::degree_of` meets its contract: a code held stands at the number of its point, one not held has no edge.
use mathlib.Core.Path.{◌≡◌, sym, ◌∙◌}
use native.Mathlib.Omega.{arith}
use lib.ListN.{length}
use Rattle.arrays.proofs.Test.{of_true}
use Rattle.questions.proofs.Answers.{degree_none, degree-there}
use borrow.Author.Rules.{rules}
use Rattle.questions.proofs.degree_of.Goals as goal

pub has-requires : goal.has-requires
has-requires c = let codes-sized : length c.args.w.codes ≡ 128 = search rules in
    omega (arith, c.args.w.in_order.few, codes-sized)

pub returns-then-not-has : goal.returns-then-not-has
returns-then-not-has c = degree_none c.args.w _ c.requires.t (sym c.has.ensures ∙ c.if-not-has.true)

pub index_of-requires : goal.index_of-requires
index_of-requires c = let codes-sized : length c.args.w.codes ≡ 128 = search rules in
    omega (arith, c.args.w.in_order.few, codes-sized)

pub degree_of-requires : goal.degree_of-requires
degree_of-requires c = let keys-sized : length c.args.w.keys ≡ 136 = search rules in
    omega (arith, c.args.w.in_order.keys_few, keys-sized)

pub returns : goal.returns
returns c = let held = of_true (sym c.has.ensures ∙ c.if-not-has.false) in
    degree-there c.args.w _ _ _ held c.index_of.ensures c.degree_of.ensures
