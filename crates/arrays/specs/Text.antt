-- Words written as text.
use Rattle.std.specs.Prelude.{List, [] as []ᴸ, ◌∷◌ as ◌∷ᴸ◌, ℕ}
use Prim.Native.Char.{Char, code}
use Prim.Native.String.{String, [], ◌∷◌}

-- The bytes of a text of ASCII characters: their codes.
abbrev pub bytes : String → List ℕ
bytes [] = []ᴸ
bytes (c ∷ s) = code c ∷ᴸ bytes s

-- The byte of one ASCII character: `byte "#"`, `byte "\n"`.
abbrev pub byte : Char → ℕ
byte c = code c
