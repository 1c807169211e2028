-- `script::by_words` meets its contract: by the name, and by the words behind it.
use mathlib.Core.Path.{◌≡◌}
use mathlib.Core.Bool.{true, false}
use native.Mathlib.Omega.{arith}
use Rattle.arrays.specs.Same.{same_list}
use Rattle.arrays.specs.Text.{bytes}
use Rattle.commands.proofs.Tests.{compared}
use Rattle.script.proofs.Lines.{words_none, words_read, words_named}
use Rattle.script.proofs.by_words.Goals as goal

pub returns-in_default : goal.returns-in_default
returns-in_default c = words_none _ c.in_default.ensures

pub returns-in-read : goal.returns-in-read
returns-in-read c =
    let same : same_list c.in-Some.name.now (bytes "read") ≡ true = grind (arith, compared) in
    words_read c.in-Some.ensures _ same c.with_file.ensures

pub returns-in_default-name : goal.returns-in_default-name
returns-in_default-name c =
    let other : same_list c.in-Some.name.now (bytes "read") ≡ false = grind (arith, compared) in
    words_named c.in-Some.ensures _ other _ c.arguments_of.ensures c.of_numbers.ensures
