-- What the contracts of programs say of a number of bytes at the front of a slice.
use Rattle.std.specs.Prelude.{◌≡◌, List, ℕ, ◌≤◌, length, take}

-- So many bytes stand at the front: there is no end behind that of the list. The second part follows from the first, and spares a caller's slice a proof.
abbrev pub IsPrefixLen : ℕ → List ℕ → Type 0
IsPrefixLen n xs = (n ≤ length xs) × (n ≡ length (take n xs))
