-- `packing::start` meets its contract: the deck is empty.
use Rattle.packing.proofs.Steps.{started}
use Rattle.packing.proofs.start.Goals as goal

pub returns : goal.returns
returns c = started c.empty.result c.empty.ensures
