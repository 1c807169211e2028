-- `ascii::encode::pairs` meets its contract. The invariant: the digits of the bytes passed are written.
use lib.ListN.{length}
use Rattle.ascii.specs.Encoding.{hex_pair}
use Rattle.arrays.proofs.paste.Lines.{PutFirst, each_to}
use Rattle.ascii.proofs.encode.pairs.Given as goal

abbrev pub invariant-loop-b : goal.invariant-loop-b
invariant-loop-b l = PutFirst (each_to hex_pair l.bytes) 2 (length l.bytes) l.initial.out l.out l.initial.next l.next l.b-index
