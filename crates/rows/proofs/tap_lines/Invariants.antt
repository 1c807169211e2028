-- `rows::tap_lines`: the lines of the Steiner points passed are written.
use lib.ListN.{length}
use Rattle.arrays.proofs.paste.Lines.{PutFirst}
use Rattle.rows.proofs.Lines.{tap_text}
use Rattle.rows.proofs.tap_lines.Given as goal

abbrev pub invariant-loop-k : goal.invariant-loop-k
invariant-loop-k l = PutFirst (tap_text l.codes) 18 (length l.codes) l.initial.out l.out l.at l.next l.k-index
