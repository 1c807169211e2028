-- `drawing::put_symbol` meets its contract: the place of the point, the unit, and its coordinates in stored form.
use Rattle.arrays.proofs.paste.Parts.{pasted_same}
use Rattle.plane.specs.Code.{x_of, y_of}
use Rattle.plane.proofs.Stored.{stored-coordinate}
use Rattle.drawing.specs.Elements.{symbol_text}
use Rattle.drawing.proofs.put_symbol.Goals as goal

pub returns-clause-pasted : goal.returns-clause-pasted
unfolding symbol_text
returns-clause-pasted c =
    pasted_same (cc (stored-coordinate (x_of c.args.k), stored-coordinate (y_of c.args.k), c.template_of.ensures.text)) c.fill.ensures.pasted
