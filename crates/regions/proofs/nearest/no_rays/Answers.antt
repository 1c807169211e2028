-- `regions::nearest::no_rays` meets its contract: 0 stands at every place, and is read behind the last.
use mathlib.Core.Path.{refl}
use mathlib.Core.Logic.{dite}
use native.Mathlib.Decide.{dec_lt}
use native.Mathlib.Omega.{arith}
use lib.ListN.{replicate, get_or-replicate, get_or-eq_default}
use Rattle.regions.proofs.nearest.no_rays.Goals as goal

pub returns : goal.returns
returns c = record {
  size = refl;
  none = λ i. dite (dec_lt i 512) (λ h. get_or-replicate 512 i 0 0 h) (λ h. get_or-eq_default (replicate 512 0) 0 {n = i} (omega arith));
}
