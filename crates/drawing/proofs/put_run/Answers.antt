-- `drawing::put_run` meets its contract: the places of both ends, and the length.
use Rattle.arrays.proofs.paste.Parts.{pasted_same}
use Rattle.drawing.specs.Elements.{run_text}
use Rattle.drawing.proofs.put_run.Goals as goal

pub returns-clause-pasted : goal.returns-clause-pasted
unfolding run_text
returns-clause-pasted c = pasted_same (cc) c.fill.ensures.pasted
