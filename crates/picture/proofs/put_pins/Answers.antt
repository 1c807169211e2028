-- `picture::put_pins` meets its contract: one pin more adds its symbol.
use native.Mathlib.Omega.{arith}
use Rattle.std.proofs.lemmas.List.{length_push}
use Rattle.std.proofs.lemmas.Slice.Zip.{zip_turn}
use Rattle.arrays.proofs.paste.Lines.{first_none, first_more}
use Rattle.frame.specs.Stored.{box_in}
use Rattle.drawing.specs.Rooms.{symbol_room}
use Rattle.picture.proofs.Texts.{symbols_to, symbol_none, symbol_more}
use Rattle.picture.proofs.put_pins.Goals as goal

pub loop-kind-init : goal.loop-kind-init
loop-kind-init c =
    let kinds = c.args.kinds.now in
    let codes = c.args.codes.now in
    let b = box_in c.args.f in
    first_none (symbols_to b kinds codes) symbol_room _ _ _ (symbol_none b kinds codes)

pub loop-kind-preserved : goal.loop-kind-preserved
loop-kind-preserved c =
    let kinds = c.args.kinds.now in
    let codes = c.args.codes.now in
    let b = box_in c.args.f in
    let turn = zip_turn kinds codes c.loop-kind.yielded c.into_iter-kind-iterator.result c.loop-kind.kind-iterator c.next.new.self c.next.result (cc) (cc)
    c.loop-kind.yielded_by _ c.in-Some.is c.next.ensures.steps in
    rw length_push (first_more (symbols_to b kinds codes) symbol_room _ _ _ _ _ _ _ _ _ c.loop-kind.invariant turn.0
    (symbol_more b kinds codes _ _ _ turn.0 turn.1 (turn.2 0) (turn.3 0)) (omega arith) c.put_symbol-next.ensures.pasted
    c.put_symbol-next.ensures.upper_bound c.put_symbol-next.auto.out)
