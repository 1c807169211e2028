-- `ascii::encode::spread_all` meets its contract. The invariant: what stands for the bytes passed is written.
use lib.ListN.{length}
use Rattle.ascii.specs.Encoding.{spread}
use Rattle.arrays.proofs.paste.Lines.{PutFirst, each_to}
use Rattle.ascii.proofs.encode.spread_all.Given as goal

abbrev pub invariant-loop-b : goal.invariant-loop-b
invariant-loop-b l = PutFirst (each_to spread l.lines) 3 (length l.lines) l.initial.out l.out 0 l.next l.b-index
