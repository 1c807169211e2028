-- `replay::list::signed32` meets its contract: the same bits read as a signed number.
use mathlib.Core.Path.{◌∙◌}
use Rattle.arrays.proofs.Signed.{read_is}
use Rattle.replay.proofs.list.Signed.{signed_is}
use Rattle.replay.proofs.list.signed32.Goals as goal

pub returns : goal.returns
returns c = read_is (record { sfits = c.cast_signed.type_inv }) (c.cast_signed.ensures ∙ signed_is _ c.requires)
