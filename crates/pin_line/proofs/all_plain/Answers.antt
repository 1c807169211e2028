-- `pin_line::all_plain` meets its contract: the library's walk over the bytes, with the same test.
use mathlib.Core.Path.{◌∙◌}
use mathlib.Core.Bool.{not, ◌&&◌}
use lib.Dec.{eqb}
use Rattle.std.proofs.Common.{rules, tests}
use Rattle.std.proofs.lemmas.Iterator.{YieldsList-from_slice}
use Rattle.std.proofs.lemmas.Iterator.Search.{all_from_yields_List}
use Rattle.pin_line.proofs.PinLines.{all-is}
use Rattle.pin_line.proofs.all_plain.Goals as goal

pub returns : goal.returns
returns c =
    all_from_yields_List (λ b. not (eqb b 12) && not (eqb b 13)) _ _ _ c.all.ensures.ran (YieldsList-from_slice c.args.text.now cc)
    (λ x b q k. search (rules, tests))
    ∙ all-is c.args.text.now
