-- An example: the names of the symbols, by the kinds of pins (SPEC 1.7) and then that of a tap.
use Rattle.std.specs.Prelude.{◌≡◌, [], ◌∷◌, map}
use Rattle.arrays.specs.Text.{bytes}
use Rattle.drawing.specs.Elements.{symbol_name}

abbrev pub SymbolNames : Type 0
SymbolNames =
    map symbol_name (0 ∷ 1 ∷ 2 ∷ 3 ∷ [])
    ≡ bytes "sensor" ∷ bytes "display" ∷ bytes "controller" ∷ bytes "tap" ∷ []
