-- `frame::Frame::down` meets its contract: the margin, and from the upper side of the box down.
use Rattle.frame.specs.Frame.{down_at}
use Rattle.frame.proofs.Frame.down.Goals as goal

pub returns : goal.returns
unfolding down_at
returns c = cc
