-- `commands::by_name` meets its contract: a name that is none of the four is a question or none.
use mathlib.Core.Path.{◌≡◌, ◌∙◌}
use mathlib.Core.Bool.{false}
use native.Mathlib.Omega.{arith}
use Rattle.arrays.specs.Same.{same_list}
use Rattle.arrays.specs.Text.{bytes}
use Rattle.commands.proofs.Names.{alone_question}
use Rattle.commands.proofs.Tests.{compared}
use Rattle.commands.proofs.by_name.Goals as goal

pub returns-in_default : goal.returns-in_default
returns-in_default c =
    let a : same_list c.args.name.now (bytes "write") ≡ false = grind (arith, compared) in
    let b : same_list c.args.name.now (bytes "round") ≡ false = grind (arith, compared) in
    let d : same_list c.args.name.now (bytes "finish") ≡ false = grind (arith, compared) in
    let e : same_list c.args.name.now (bytes "list") ≡ false = grind (arith, compared) in
    c.question_word.ensures ∙ alone_question _ a b d e
