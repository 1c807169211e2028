-- `words::word_length` meets its contract: the first place with white space, or the length.
use mathlib.Core.Path.{ap, ◌∙◌}
use Prim.Native.Nat.{ℕ}
use lib.ListN.{length}
use Rattle.std.proofs.Common.{Option, rules, tests}
use Rattle.std.proofs.lemmas.Iterator.{YieldsList-from_slice}
use Rattle.std.proofs.lemmas.Iterator.Search.{position_from_yields_List}
use Rattle.std.specs.Char.{is_ascii_whitespace}
use Rattle.std.specs.Option.{unwrap_or}
use Rattle.words.proofs.Words.{letters_found}
use Rattle.words.proofs.word_length.Goals as goal

pub returns : goal.returns
returns c = let line = c.args.line.now in
    let found = position_from_yields_List is_ascii_whitespace _ _ c.position.result c.position.ensures.ran (YieldsList-from_slice line cc)
    (λ x b q k. search (rules, tests)) in
    c.unwrap_or.ensures ∙ ap (λ (r : Option ℕ). unwrap_or r (length line)) found ∙ letters_found line
