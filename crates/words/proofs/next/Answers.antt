-- `words::next` meets its contract: past white space, and then past a word.
use mathlib.Core.Path.{sym, ◌∙◌}
use native.Mathlib.Omega.{arith}
use Rattle.words.proofs.Words.{letters_most, next_none, next_some}
use Rattle.words.proofs.next.Goals as goal

pub split_at-requires : goal.split_at-requires
split_at-requires c = omega (arith, c.word_length.ensures, letters_most c.trim_ascii_start-from_word.result.now)

pub returns-in-0 : goal.returns-in-0
returns-in-0 c = next_none _ _ c.trim_ascii_start-from_word.ensures.value (sym c.word_length.ensures ∙ c.in-0.is)

pub returns-in_default : goal.returns-in_default
returns-in_default c =
    next_some _ _ c.trim_ascii_start-from_word.ensures.value _ c.word_length.ensures (λ e. omega arith)
    c.split_at.ensures.front c.split_at.ensures.back
