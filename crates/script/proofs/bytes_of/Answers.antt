-- `script::bytes_of` meets its contract: the second word is tested, and decoded where it is pairs of digits.
use mathlib.Core.Path.{sym, ◌∙◌}
use Rattle.script.proofs.Lines.{no_first, no_second, file_none, file_some}
use Rattle.script.proofs.bytes_of.Goals as goal

pub returns-in_default : goal.returns-in_default
returns-in_default c = no_first _ _ c.in_default.ensures

pub returns-in_default-next : goal.returns-in_default-next
returns-in_default-next c = no_second c.in-Some.ensures _ c.in_default-next.ensures

pub returns-then-not-is_hex : goal.returns-then-not-is_hex
returns-then-not-is_hex c = file_none c.in-Some.ensures _ c.in-Some-next.ensures (sym c.is_hex.ensures ∙ c.if-not-is_hex.true)

pub returns : goal.returns
returns c = file_some c.in-Some.ensures _ c.in-Some-next.ensures _ _ (sym c.is_hex.ensures ∙ c.if-not-is_hex.false) c.decode.ensures
