-- `plane::codes::locate` meets its contract: the test is that of the range, and in range the stored coordinates make the code.
use mathlib.Core.Path.{sym, ap, ap₂, ◌∙◌, subst}
use mathlib.Core.Bool.{◌&&◌}
use lib.Dec.{T}
use Rattle.plane.specs.Point.{coordinate_in_range}
use Rattle.plane.specs.Coordinate.{stored_of}
use Rattle.plane.specs.Code.{packed, code}
use Rattle.std.specs.Prelude.{Some}
use Rattle.arrays.proofs.Signed.{read_one}
use Rattle.arrays.proofs.Test.{and_parts, of_true}
use Rattle.plane.proofs.codes.Points.{located_in, located-out}
use Rattle.plane.proofs.codes.locate.Goals as goal

pub stored-requires : goal.stored-requires
stored-requires c = subst T c.is_in_range.ensures (and_parts c.is_in_range.result c.is_in_range-2.result (of_true c.if-is_in_range.true)).0

pub stored-requires-then-is_in_range : goal.stored-requires-then-is_in_range
stored-requires-then-is_in_range c = subst T c.is_in_range-2.ensures (and_parts c.is_in_range.result c.is_in_range-2.result (of_true c.if-is_in_range.true)).1

pub returns-then-is_in_range : goal.returns-then-is_in_range
unfolding code
returns-then-is_in_range c = let x = c.stored.ensures ∙ read_one stored_of c.ranges.x in
    let y = c.stored-then-is_in_range.ensures ∙ read_one stored_of c.ranges.y in
    ap Some (c.pack.ensures.0 ∙ ap₂ packed x y) ∙ sym (located_in (record { x = c.args.x; y = c.args.y })
    ((let x = c.is_in_range.ensures ∙ read_one coordinate_in_range c.ranges.x in sym
    (ap₂ ◌&&◌ x (c.is_in_range-2.ensures ∙ read_one coordinate_in_range c.ranges.y))) ∙ c.if-is_in_range.true))

pub returns-else-is_in_range : goal.returns-else-is_in_range
returns-else-is_in_range c = sym (located-out (record { x = c.args.x; y = c.args.y })
    ((let x = c.is_in_range.ensures ∙ read_one coordinate_in_range c.ranges.x in sym
    (ap₂ ◌&&◌ x (c.is_in_range-2.ensures ∙ read_one coordinate_in_range c.ranges.y))) ∙ c.if-is_in_range.false))
