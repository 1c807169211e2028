-- What the entry does to a deck that it read.
use Rattle.std.specs.Prelude.{List, [], ◌∷◌}
use Rattle.model.specs.Call.{Call, run_to_end}

-- The one call between reading and writing (SPEC 10.1).
abbrev pub to_end : List Call
to_end = run_to_end ∷ []
