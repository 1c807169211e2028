-- The picture of the example of SPEC 7.7 after a run to the end, as SPEC 9.9 has it.
use Rattle.std.specs.Prelude.{◌≡◌, List, [], ◌∷◌, ℕ}
use Rattle.arrays.specs.Paste.{each}
use Rattle.plane.specs.Coordinate.{stored_of}
use Rattle.model.specs.Call.{step, run_to_end}
use Rattle.model.specs.File.{Read, deck, refusal, read_file}
use Rattle.model.specs.Decks.{play, filed, lengths_of}
use Rattle.model.specs.Example.{lines, example_file}
use Rattle.template.specs.Examples.{text}
use Rattle.frame.specs.Examples.{place_in}
use Rattle.drawing.specs.Elements.{head_text, run_text, symbol_template, symbol_text, foot_text}
use Rattle.picture.specs.Picture.{edge_text, symbol_texts, point_texts, picture_of}

-- The picture of a file's deck after a run to the end.
unfoldable pub picture_answer : List ℕ → List ℕ
unfolding play filed lengths_of each stored_of text place_in head_text run_text symbol_template symbol_text foot_text edge_text symbol_texts
    point_texts picture_of
picture_answer b = answer (read_file b)
  where
    answer : Read → List ℕ
    answer (deck c) = picture_of (step c run_to_end).next
    answer (refusal n) = []

unfoldable pub example_picture : List ℕ
example_picture =
    lines
    ("<svg xmlns='http://www.w3.org/2000/svg' viewBox='0 0 4400 4400'>"
    ∷ "<defs>"
    ∷ "<circle id='sensor' r='2' fill='white' stroke='black'/>"
    ∷ "<rect id='display' x='-3' y='-3' width='6' height='6' fill='blue'/>"
    ∷ "<path id='controller' d='M-4 0L0 -4L4 0L0 4Z' fill='red'/>"
    ∷ "<circle id='tap' r='2'/>"
    ∷ "</defs>"
    ∷ "<rect width='4400' height='4400' fill='white'/>"
    ∷ "<g fill='none' stroke='gray' stroke-width='10'>"
    ∷ "<path d='M200 3400H2200V3400'><title>5 cm</title></path>"
    ∷ "<path d='M2200 3400H2200V200'><title>8 cm</title></path>"
    ∷ "<path d='M2200 3400H4200V3400'><title>5 cm</title></path>"
    ∷ "</g>"
    ∷ "<use href='#sensor' transform='translate(200 3400)scale(10)'><title>sensor 0 0</title></use>"
    ∷ "<use href='#sensor' transform='translate(2200 200)scale(10)'><title>sensor 5 8</title></use>"
    ∷ "<use href='#sensor' transform='translate(4200 3400)scale(10)'><title>sensor 10 0</title></use>"
    ∷ "<use href='#tap' transform='translate(2200 3400)scale(10)'><title>tap 5 0</title></use>"
    ∷ "<g transform='translate(0 3200)scale(10)' font-family='sans-serif' font-size='14'>"
    ∷ "<use href='#sensor' x='30' y='60'/><text x='40' y='65'>sensor</text>"
    ∷ "<use href='#display' x='130' y='60'/><text x='140' y='65'>display</text>"
    ∷ "<use href='#controller' x='230' y='60'/><text x='240' y='65'>controller</text>"
    ∷ "<use href='#tap' x='350' y='60'/><text x='360' y='65'>tap</text>"
    ∷ "<text x='30' y='100'>pins 3, taps 1, length 18 cm</text>"
    ∷ "</g>"
    ∷ "</svg>"
    ∷ [])

abbrev pub ExamplePicture : Type 0
ExamplePicture = picture_answer example_file ≡ example_picture
