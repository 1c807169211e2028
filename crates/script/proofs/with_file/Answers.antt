-- `script::with_file` meets its contract: by how many words there are, up to the second.
use Rattle.script.proofs.Lines.{word_missing, word_more, word_alone}
use Rattle.script.proofs.with_file.Goals as goal

pub returns-in_default : goal.returns-in_default
returns-in_default c = word_missing _ c.in_default.ensures

pub returns-in-None : goal.returns-in-None
returns-in-None c = word_alone c.in-Some.ensures c.in-None.ensures _ c.of_file.ensures

pub returns-in-Some-next : goal.returns-in-Some-next
returns-in-Some-next c = word_more c.in-Some.ensures c.in-Some-next.ensures
