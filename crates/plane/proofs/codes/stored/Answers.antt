-- `plane::codes::stored` meets its contract: a coordinate in range, raised, is the number that it is stored as.
use mathlib.Core.Path.{ap}
use native.Mathlib.Omega.{arith}
use lib.IntN.{nat_abs}
use Rattle.plane.specs.Point.{limit}
use Rattle.plane.specs.Coordinate.{stored_of}
use Rattle.plane.proofs.Signed.{raised_read}
use Rattle.plane.proofs.codes.stored.Goals as goal

pub returns : goal.returns
unfolding stored_of
returns c = ap nat_abs (raised_read limit c.args.z c.ranges.z c.requires (omega arith))
