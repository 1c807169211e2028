-- `arrow::offset` meets its contract: a difference in the table, raised by the largest one, is not negative.
use mathlib.Core.Path.{ap}
use native.Mathlib.Omega.{arith}
use lib.IntN.{nat_abs}
use mir.Syntax.{w64}
use Rattle.plane.proofs.Signed.{raised_most, raised_fits, raised_read, raised_cast}
use Rattle.table.specs.Table.{table_limit}
use Rattle.arrow.proofs.offset.Goals as goal

pub overflow_add-result : goal.overflow_add-result
overflow_add-result c = raised_fits table_limit c.args.d c.ranges.d c.requires (omega arith)

pub overflow_cast-result : goal.overflow_cast-result
overflow_cast-result c = raised_cast table_limit c.args.d c.ranges.d c.requires (omega arith) w64
    (record { fits = omega (arith, raised_most table_limit c.args.d c.ranges.d c.requires (omega arith)) })

pub returns : goal.returns
returns c = let same = ap nat_abs (raised_read table_limit c.args.d c.ranges.d c.requires (omega arith)) in
    record { value = same; upper_bound = omega (arith, same, raised_most table_limit c.args.d c.ranges.d c.requires (omega arith)) }
