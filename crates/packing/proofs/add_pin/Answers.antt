-- `packing::add_pin` meets its contract: the call on the deck in working form, and the fault by its reply.
use Rattle.packing.proofs.Steps.{pin_added}
use Rattle.packing.proofs.add_pin.Goals as goal

pub returns : goal.returns
returns c = pin_added c.args.d c.args.n c.requires.valid_contents _ _ _ c.ranges.x c.ranges.y c.add-c.ensures c.fault_by.ensures
