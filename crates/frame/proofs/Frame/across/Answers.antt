-- `frame::Frame::across` meets its contract: the middle of the picture, half the width to the left, and from there on.
use Rattle.frame.specs.Frame.{across_at}
use Rattle.frame.proofs.Frame.across.Goals as goal

pub returns : goal.returns
unfolding across_at
returns c = cc
