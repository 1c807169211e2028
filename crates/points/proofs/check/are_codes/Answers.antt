-- `points::check::are_codes` meets its contract: the library's `all` says the same.
use Rattle.std.proofs.Common.{◌≡◌, true, false, rules}
use Rattle.std.proofs.lemmas.Iterator.{cases_from_all, YieldsList-from_slice}
use Rattle.plane.specs.Code.{is_code}
use Rattle.sorted.proofs.Tests.{all_cases}
use Rattle.points.proofs.check.are_codes.Goals as goal

pub returns : goal.returns
returns c =
    all_cases is_code c.args.a.now c.all.result
    (cases_from_all _ _ _ (λ k. is_code k ≡ true) (λ k. is_code k ≡ false)
    c.all.ensures.ran (YieldsList-from_slice c.args.a.now cc) (λ x q k. search rules) (λ x q k. search rules))
