-- `score::gain::gain` meets its contract: each bottleneck over the rays before, and the gains summed.
use Rattle.score.proofs.gain.FourRays.{four}
use Rattle.score.proofs.gain.gain.Goals as goal

pub returns : goal.returns
returns c = four _ _ _ _ _ c.over-w.ensures.0 c.over.ensures.0 c.over-n.ensures.0 c.over-2.ensures.0 c.over-3.ensures.0
    c.over-s.ensures.0 c.spared.ensures.0 c.spared-2.ensures.0 c.spared-3.ensures.0 c.spared-4.ensures.0
