-- `columns::free_rows` meets its contract. The invariant: of the rows seen, those that are free stand at the front of `free`.
use lib.ListN.{length}
use Rattle.arrays.proofs.paste.Lines.{PutFirst, each_to}
use Rattle.columns.proofs.Rows.{free_row}
use Rattle.columns.proofs.free_rows.Given as goal

abbrev pub invariant-loop-y : goal.invariant-loop-y
invariant-loop-y l = PutFirst (each_to (free_row l.codes l.x) l.rows) 1 (length l.rows) l.initial.free l.free 0 l.kept l.y-index
