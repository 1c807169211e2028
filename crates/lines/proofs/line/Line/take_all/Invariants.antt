-- The invariant: the bytes passed are taken.
use Rattle.std.proofs.Common.{◌≡◌, take}
use Rattle.lines.specs.Lines.{taken_all}
use Rattle.lines.specs.Line.{reading_of}
use Rattle.lines.proofs.line.Line.take_all.Given as goal

abbrev pub invariant-loop-b : goal.invariant-loop-b
invariant-loop-b g l =
    let of = g.T.TakesLines in
    of.ready l.to × (reading_of (of.known l.to) l.self ≡ taken_all of.after (reading_of (of.known l.initial.to) l.initial.self) (take l.b-index l.bytes))
