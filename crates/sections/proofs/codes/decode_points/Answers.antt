-- `sections::codes::decode_points` meets its contract: the points decoded are those that the file shows.
use mathlib.Core.Path.{◌≡◌, sym}
use lib.ListN.{length}
use lib.Seq.{length-take-le}
use Rattle.model.specs.State.{max_pins}
use Rattle.sections.specs.Codes.{file_places}
use Rattle.sections.proofs.codes.Placed.{pins-section, steiner-section, steiner-room, pins-outside, steiner-outside, decodes}
use native.Mathlib.Omega.{arith}
use borrow.Author.Rules.{rules}
use Rattle.sections.proofs.codes.decode_points.Goals as goal

pub decode_section-requires : goal.decode_section-requires
decode_section-requires c = (omega arith, (pins-section _ c.args.file.now.sections, omega (arith, c.args.file.now.few_pins)))

pub returns-in_err-pins : goal.returns-in_err-pins
returns-in_err-pins c = rw c.from_residual.ensures (pins-outside _ c.args.file.now.sections c.in_err-pins.ensures)

pub decode_section-requires-2 : goal.decode_section-requires-2
decode_section-requires-2 c = (omega arith, (steiner-section _ c.args.file.now.sections, omega (arith, steiner-room _ c.args.file.now.sections)))

pub returns-in_err-steiner : goal.returns-in_err-steiner
returns-in_err-steiner c =
    rw c.from_residual-in_err-steiner.ensures (steiner-outside _ c.args.file.now.sections c.in_err-steiner.ensures)

pub slice_bounds-pins-end : goal.slice_bounds-pins-end
slice_bounds-pins-end c = let pins : length c.in_ok-pins.pins ≡ max_pins = search rules in
    omega (arith, pins, c.size-n.ensures.0, c.args.file.now.few_pins)

pub slice_bounds-steiner-end : goal.slice_bounds-steiner-end
slice_bounds-steiner-end c = let steiner : length c.in_ok-steiner.steiner ≡ file_places = search rules in
    omega (arith, steiner, c.size-m.ensures.0, steiner-room _ c.args.file.now.sections)

pub slice_bounds-are_placed-end-2 : goal.slice_bounds-are_placed-end-2
slice_bounds-are_placed-end-2 c = let steiner : length c.in_ok-steiner.steiner ≡ file_places = search rules in
    sym (length-take-le _ c.in_ok-steiner.steiner (omega (arith, steiner, c.size-m.ensures.0, steiner-room _ c.args.file.now.sections)))

pub returns : goal.returns
returns c = decodes _ c.args.file.now.sections c.size-n.ensures.0 c.size-m.ensures.0 c.in_ok-pins.ensures c.in_ok-steiner.ensures
    c.are_placed.ensures c.then_some.ensures
