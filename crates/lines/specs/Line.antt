-- The line of an input so far, and a reading with it.
use Rattle.std.specs.Prelude.{List, ℕ, take}
use Rattle.lines.specs.declared.line.Line.{Line}
use Rattle.lines.specs.Lines.{Reading}

abbrev pub line_of : Line → List ℕ
line_of l = take l.size l.bytes

abbrev pub reading_of : {S : Type 0} → S → Line → Reading S
reading_of s l = record { state = s; line = line_of l }
