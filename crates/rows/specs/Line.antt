-- The lines of a listing one by one (SPEC 9.2).
use Rattle.std.specs.Prelude.{List, [], ◌∷◌, ◌++◌, ℕ}
use Rattle.plane.specs.Point.{Point}
use Rattle.plane.specs.Edge.{Edge}
use Rattle.model.specs.Listing.{tap_word, run_word, line_feed, field, decimal, point_fields}

-- The tap line of a Steiner point.
abbrev pub tap_line : Point → List ℕ
tap_line q = tap_word ++ (point_fields q ++ (line_feed ∷ []))

-- The run line of an edge with its length.
abbrev pub run_line : Edge → ℕ → List ℕ
run_line e n =
    run_word ++ (point_fields e.lo ++ (point_fields e.hi ++ (field (decimal n) ++ (line_feed ∷ []))))
