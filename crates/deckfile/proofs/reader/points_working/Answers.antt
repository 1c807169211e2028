-- `deckfile::reader::points_working` meets its contract: the codes found are those of the points shown, with zeros behind.
use Rattle.arrays.proofs.Test.{of_true}
use Rattle.deckfile.proofs.reader.LastCheck.{steiner-put, working_for}
use Rattle.deckfile.proofs.reader.points_working.Goals as goal

pub returns : goal.returns
returns c = let b = c.args.file.now.bytes.now in
    let p = of_true c.requires.decodes.passes in
    let row = steiner-put b c.args.file.now.sections p _ c.requires.decodes _ c.size-m.ensures.0 c.put_items.ensures in
    working_for b c.args.file.now.sections p _ c.requires.decodes _ _ c.size-n.ensures.0 c.size-m.ensures.0 _ row
    _ c.form_of.ensures
