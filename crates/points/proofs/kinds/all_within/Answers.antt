-- `points::kinds::all_within` meets its contract: the library's `all` says the same.
use Rattle.std.proofs.Common.{◌≡◌, true, false, leb, rules}
use Rattle.std.proofs.lemmas.Iterator.{cases_from_all, YieldsList-from_slice}
use Rattle.sorted.proofs.Tests.{all_cases}
use borrow.Author.Tests.{tests}
use Rattle.points.proofs.kinds.all_within.Goals as goal

pub returns : goal.returns
returns c =
    all_cases (λ k. leb k c.args.most) c.args.kinds.now c.all.result
    (cases_from_all _ _ _ (λ k. leb k c.args.most ≡ true) (λ k. leb k c.args.most ≡ false)
    c.all.ensures.ran (YieldsList-from_slice c.args.kinds.now cc) (λ x q k. search (rules, tests)) (λ x q k. search (rules, tests)))
