-- `octants::octant` meets its contract: the tests on the way to each return say which sector the difference is in. A sum is
-- taken only of numbers with unlike signs, so it fits and is read back as it is.
use native.Mathlib.Omega.{arith}
use lib.IntN.{ℤ, ◌+ℤ◌, +ℤ_comm}
use mir.Syntax.{w32}
use mir.ValLaws.{to_z-of_z}
use Rattle.octants.specs.Octant.{octant}
use Rattle.plane.proofs.Whole.{add_value}
use Rattle.arrays.proofs.Signed.{read, read_fits}
use Rattle.plane.proofs.Signed.{tests, sum_fits}
use Rattle.octants.proofs.Read.{read-octant, read_none}
use Rattle.octants.proofs.octant.Goals as goal

pub overflow_add-dx : goal.overflow_add-dx
overflow_add-dx c = sum_fits (read c.args.dx) (read c.args.dy) (read_fits c.args.dx c.ranges.dx) (read_fits c.args.dy c.ranges.dy)
    (omega (arith, tests)) (omega (arith, tests))

pub overflow_add-dx-else-dy-le0 : goal.overflow_add-dx-else-dy-le0
overflow_add-dx-else-dy-le0 c = rw (+ℤ_comm (read c.args.dx) (read c.args.dy))
    (sum_fits (read c.args.dy) (read c.args.dx) (read_fits c.args.dy c.ranges.dy) (read_fits c.args.dx c.ranges.dx)
    (omega (arith, tests)) (omega (arith, tests)))

pub returns-then-dy-dx : goal.returns-then-dy-dx
returns-then-dy-dx c = read-octant 0 c.args.dx c.args.dy c.ranges.dx c.ranges.dy (omega (arith, tests))

pub returns-else-dy-dx : goal.returns-else-dy-dx
returns-else-dy-dx c = read-octant 1 c.args.dx c.args.dy c.ranges.dx c.ranges.dy (omega (arith, tests))

pub returns-then-dx-dy-lt0 : goal.returns-then-dx-dy-lt0
returns-then-dx-dy-lt0 c = let h = rw (to_z-of_z w32 ((read c.args.dx) +ℤ (read c.args.dy))
    (sum_fits (read c.args.dx) (read c.args.dy) (read_fits c.args.dx c.ranges.dx) (read_fits c.args.dy c.ranges.dy) (omega (arith, tests))
    (omega (arith, tests)))) at c.if-dx-dy-lt0.true in
    read-octant 6 c.args.dx c.args.dy c.ranges.dx c.ranges.dy (omega (arith, tests, add_value (read c.args.dx) (read c.args.dy)))

pub returns-else-dx-dy-lt0 : goal.returns-else-dx-dy-lt0
returns-else-dx-dy-lt0 c = let h = rw (to_z-of_z w32 ((read c.args.dx) +ℤ (read c.args.dy))
    (sum_fits (read c.args.dx) (read c.args.dy) (read_fits c.args.dx c.ranges.dx) (read_fits c.args.dy c.ranges.dy) (omega (arith, tests))
    (omega (arith, tests)))) at c.if-dx-dy-lt0.false in
    read-octant 7 c.args.dx c.args.dy c.ranges.dx c.ranges.dy (omega (arith, tests, add_value (read c.args.dx) (read c.args.dy)))

pub returns-then-dx-dy : goal.returns-then-dx-dy
returns-then-dx-dy c = read-octant 4 c.args.dx c.args.dy c.ranges.dx c.ranges.dy (omega (arith, tests))

pub returns-else-dx-dy : goal.returns-else-dx-dy
returns-else-dx-dy c = read-octant 5 c.args.dx c.args.dy c.ranges.dx c.ranges.dy (omega (arith, tests))

pub returns-then-dx-dy-gt0 : goal.returns-then-dx-dy-gt0
returns-then-dx-dy-gt0 c = let h = rw (to_z-of_z w32 ((read c.args.dx) +ℤ (read c.args.dy))
    (rw (+ℤ_comm (read c.args.dx) (read c.args.dy)) (sum_fits (read c.args.dy) (read c.args.dx) (read_fits c.args.dy c.ranges.dy)
    (read_fits c.args.dx c.ranges.dx) (omega (arith, tests)) (omega (arith, tests))))) at c.if-dx-dy-gt0.true in
    read-octant 2 c.args.dx c.args.dy c.ranges.dx c.ranges.dy (omega (arith, tests, add_value (read c.args.dx) (read c.args.dy)))

pub returns-else-dx-dy-gt0 : goal.returns-else-dx-dy-gt0
returns-else-dx-dy-gt0 c = let h = rw (to_z-of_z w32 ((read c.args.dx) +ℤ (read c.args.dy))
    (rw (+ℤ_comm (read c.args.dx) (read c.args.dy)) (sum_fits (read c.args.dy) (read c.args.dx) (read_fits c.args.dy c.ranges.dy)
    (read_fits c.args.dx c.ranges.dx) (omega (arith, tests)) (omega (arith, tests))))) at c.if-dx-dy-gt0.false in
    read-octant 3 c.args.dx c.args.dy c.ranges.dx c.ranges.dy (omega (arith, tests, add_value (read c.args.dx) (read c.args.dy)))

pub returns-then-dy-gt0 : goal.returns-then-dy-gt0
returns-then-dy-gt0 c = read-octant 2 c.args.dx c.args.dy c.ranges.dx c.ranges.dy (omega (arith, tests))

pub returns-then-dy-lt0 : goal.returns-then-dy-lt0
returns-then-dy-lt0 c = read-octant 6 c.args.dx c.args.dy c.ranges.dx c.ranges.dy (omega (arith, tests))

pub returns-else-dy-lt0 : goal.returns-else-dy-lt0
returns-else-dy-lt0 c = read_none c.args.dx c.args.dy c.ranges.dx c.ranges.dy (omega (arith, tests)) (omega (arith, tests))
