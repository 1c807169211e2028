-- What is counted and measured of a deck (SPEC 4.6), by the model; and the kind of an edge by the codes of its ends.
use Rattle.std.specs.Prelude.{List, ℕ, max, ltb}
use Rattle.arrays.specs.Beside.{beside}
use Rattle.model.specs.DeviceKinds.{sensor}
use Rattle.model.specs.Contents.{Contents}
use Rattle.model.specs.Question as question
use Rattle.edges.specs.declared.CodedEdge.{CodedEdge}
use Rattle.measures.specs.declared.Measures.{Measures}

-- The counts of pins, taps and runs, and the length.
abbrev pub measures_of : Contents → Measures
measures_of c =
    let s = c.state in
    record { pins = question.pin_count s; steiner = question.steiner_count s; edges = question.edge_count s; length = question.length_of_contents c }

-- The kind of an edge by the pins, as codes, and their kinds.
abbrev pub coded_kind : CodedEdge → List ℕ → List ℕ → ℕ
coded_kind e pins kinds = max (beside ltb sensor e.low pins kinds) (beside ltb sensor e.high pins kinds)
