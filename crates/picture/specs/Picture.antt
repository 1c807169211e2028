-- The picture of a deck in SVG (SPEC 9.9), as a list of bytes.
use Rattle.std.specs.Prelude.{List, [], ◌∷◌, ◌++◌, ℕ, length, replicate}
use Rattle.arrays.specs.Text.{bytes}
use Rattle.arrays.specs.Paste.{each}
use Rattle.plane.specs.Point.{Point}
use Rattle.plane.specs.Edge.{Edge}
use Rattle.plane.specs.Code.{point_of}
use Rattle.model.specs.State.{points}
use Rattle.model.specs.Contents.{Contents}
use Rattle.model.specs.Tail.{run_length}
use Rattle.model.specs.Question.{listed, length_of_contents, pin_count, steiner_count}
use Rattle.frame.specs.Frame.{Box, box_of}
use Rattle.drawing.specs.Elements.{head_text, run_text, symbol_text, foot_text}

-- The path of a run, with its length, tails included.
unfoldable pub edge_text : ℕ → Box → Edge → List ℕ
edge_text tail b e = run_text b e.lo e.hi (run_length tail e)

-- The paths of runs.
abbrev pub run_texts : ℕ → Box → List Edge → List ℕ
run_texts tail b l = each (edge_text tail b) l

-- The symbols of points, of which as many are given.
unfoldable pub symbol_texts : Box → List ℕ → List Point → List ℕ
symbol_texts b [] ps = []
symbol_texts b (k ∷ ks) [] = []
symbol_texts b (k ∷ ks) (p ∷ ps) = symbol_text b k p ++ symbol_texts b ks ps

-- The symbol of a tap; that of a pin is its kind.
abbrev pub tap_symbol : ℕ
tap_symbol = 3

-- The symbol of a tap, given by the code of its point.
abbrev pub tap_text : Box → ℕ → List ℕ
tap_text b k = symbol_text b tap_symbol (point_of k)

-- The symbols of all points: the pins by their kinds, then the taps.
unfoldable pub point_texts : Box → Contents → List ℕ
point_texts b c =
    let s = c.state in
    symbol_texts b c.kinds s.pins ++ symbol_texts b (replicate (length s.steiner) tap_symbol) s.steiner

-- The picture: the runs in the listing order, over them the points, and below them the legend and the caption.
unfoldable pub picture_of : Contents → List ℕ
picture_of c =
    let s = c.state in
    let b = box_of (points s) in
    head_text b
    ++ (run_texts c.tail b (listed s) ++ (bytes "</g>\n" ++ (point_texts b c ++ foot_text b (pin_count s) (steiner_count s) (length_of_contents c))))
