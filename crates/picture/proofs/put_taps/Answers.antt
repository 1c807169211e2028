-- `picture::put_taps` meets its contract: one Steiner point more adds its symbol.
use native.Mathlib.Omega.{arith}
use Rattle.arrays.proofs.paste.Lines.{each-first_none, each-first_more}
use Rattle.frame.specs.Stored.{box_in}
use Rattle.drawing.specs.Rooms.{symbol_room}
use Rattle.picture.specs.Picture.{tap_text}
use Rattle.picture.proofs.put_taps.Goals as goal

pub loop-k-init : goal.loop-k-init
loop-k-init c = each-first_none (tap_text (box_in c.args.f)) symbol_room _ _ _ _

pub loop-k-preserved : goal.loop-k-preserved
loop-k-preserved c =
    each-first_more (tap_text (box_in c.args.f)) symbol_room _ _ _ _ c.loop-k.invariant c.loop-k-test.true (omega arith) (omega arith)
    c.put_symbol-next.ensures.pasted c.put_symbol-next.ensures.upper_bound c.put_symbol-next.auto.out
