-- `words::hex::decode` meets its contract. The invariant: the bytes of the first k pairs of digits are written.
use Prim.Native.Nat.{◌*◌}
use Rattle.words.proofs.hex.Bytes.{Decoded}
use Rattle.words.proofs.hex.decode.Given as goal

abbrev pub invariant-loop-k : goal.invariant-loop-k
invariant-loop-k l = Decoded l.word l.initial.out l.out (2 * l.k) l.k
