-- The example holds: the definition computes it.
use mathlib.Core.Path.{refl}
use Rattle.drawing.specs.Examples.{SymbolNames}

pub symbol_names : SymbolNames
symbol_names = refl
