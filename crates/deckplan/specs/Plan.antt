-- What the program prints for a deck (SPEC 9.8).
use Rattle.std.specs.Prelude.{List, ℕ}
use Rattle.model.specs.Contents.{Contents}
use Rattle.model.specs.Call.{step, run_to_end}
use Rattle.model.specs.File.{file_of}

-- The file of the deck after a run to the end.
unfoldable pub planned_file : Contents → List ℕ
planned_file c = file_of (step c run_to_end).next
