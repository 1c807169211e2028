-- The parts of a picture in SVG (SPEC 9.9). Symbols are numbered: 0 to 2 those of the kinds of pins, 3 that of a tap.
use Rattle.std.specs.Prelude.{List, [], ◌∷◌, ◌++◌, ℕ, ◌*◌, eqb}
use Rattle.arrays.specs.Test.{if}
use Rattle.arrays.specs.Text.{bytes}
use Rattle.plane.specs.Point.{Point}
use Rattle.plane.specs.Coordinate.{stored_of}
use Rattle.template.specs.Template.{filled}
use Rattle.frame.specs.Frame.{Box, scale, long_side, picture_width, picture_height, across_at, down_at}

-- The symbols, by name: a ring, a square, a square on its corner, and a disc.
abbrev pub definitions : List ℕ
definitions =
    bytes "<circle id='sensor' r='2' fill='white' stroke='black'/>\n"
    ++ (bytes "<rect id='display' x='-3' y='-3' width='6' height='6' fill='blue'/>\n"
    ++ (bytes "<path id='controller' d='M-4 0L0 -4L4 0L0 4Z' fill='red'/>\n" ++ bytes "<circle id='tap' r='2'/>\n"))

-- The head: the size of the picture, the symbols, the ground, and how runs are drawn.
abbrev pub size_template : List ℕ
size_template = bytes "<svg xmlns='http://www.w3.org/2000/svg' viewBox='0 0 % %'>\n<defs>\n"

abbrev pub ground_template : List ℕ
ground_template = bytes "</defs>\n<rect width='%' height='%' fill='white'/>\n<g fill='none' stroke='gray' stroke-width='%'>\n"

unfoldable pub head_text : Box → List ℕ
head_text b =
    let w = picture_width b in
    let h = picture_height b in
    filled size_template (w ∷ h ∷ []) ++ (definitions ++ filled ground_template (w ∷ h ∷ long_side b ∷ []))

-- A run between two points, the lower first, with its length: from the lower end along x, then along y.
abbrev pub run_template : List ℕ
run_template = bytes "<path d='M% %H%V%'><title>% cm</title></path>\n"

unfoldable pub run_text : Box → Point → Point → ℕ → List ℕ
run_text b p q n = filled run_template (across_at b p.x ∷ down_at b p.y ∷ across_at b q.x ∷ down_at b q.y ∷ n ∷ [])

-- The name of a symbol.
abbrev pub symbol_name : ℕ → List ℕ
symbol_name k =
    if (eqb k 0) (λ _. bytes "sensor") (λ _. if (eqb k 1) (λ _. bytes "display") (λ _. if (eqb k 2) (λ _. bytes "controller") (λ _. bytes "tap")))

-- A symbol used: where, how large, and with which coordinates.
abbrev pub use_template : List ℕ → List ℕ
use_template name = bytes "<use href='#" ++ (name ++ (bytes "' transform='translate(% %)scale(%)'><title>" ++ (name ++ bytes " @ @</title></use>\n")))

unfoldable pub symbol_template : ℕ → List ℕ
symbol_template k = use_template (symbol_name k)

-- The symbol of a point.
unfoldable pub symbol_text : Box → ℕ → Point → List ℕ
symbol_text b k p = filled (symbol_template k) (across_at b p.x ∷ down_at b p.y ∷ long_side b ∷ stored_of p.x ∷ stored_of p.y ∷ [])

-- The symbols with their names.
abbrev pub legend : List ℕ
legend =
    bytes "<use href='#sensor' x='30' y='60'/><text x='40' y='65'>sensor</text>\n"
    ++ (bytes "<use href='#display' x='130' y='60'/><text x='140' y='65'>display</text>\n"
    ++ (bytes "<use href='#controller' x='230' y='60'/><text x='240' y='65'>controller</text>\n"
    ++ bytes "<use href='#tap' x='350' y='60'/><text x='360' y='65'>tap</text>\n"))

-- The foot: where the legend stands, the legend, and a caption with the numbers of pins and taps and the length.
abbrev pub place_template : List ℕ
place_template = bytes "<g transform='translate(0 %)scale(%)' font-family='sans-serif' font-size='14'>\n"

abbrev pub caption_template : List ℕ
caption_template = bytes "<text x='30' y='100'>pins %, taps %, length % cm</text>\n</g>\n</svg>\n"

unfoldable pub foot_text : Box → ℕ → ℕ → ℕ → List ℕ
foot_text b pins taps length =
    filled place_template (scale * b.height ∷ long_side b ∷ []) ++ (legend ++ filled caption_template (pins ∷ taps ∷ length ∷ []))
