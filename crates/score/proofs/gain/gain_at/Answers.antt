-- `score::gain::gain_at` meets its contract: the rays of the complements at the row.
use Rattle.score.proofs.gain.gain_at.Goals as goal

pub ray_of-requires : goal.ray_of-requires
ray_of-requires c = c.requires.1.low _

pub ray_of-requires-2 : goal.ray_of-requires-2
ray_of-requires-2 c = c.requires.1.low _

pub ray_of-requires-3 : goal.ray_of-requires-3
ray_of-requires-3 c = c.requires.1.low _

pub ray_of-requires-4 : goal.ray_of-requires-4
ray_of-requires-4 c = c.requires.1.low _
