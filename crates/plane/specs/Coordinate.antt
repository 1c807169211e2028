-- Coordinates as the program and the deck file hold them.
use Rattle.std.specs.Prelude.{ℕ, ◌+◌, ◌*◌, ◌/◌, ◌%◌, ℤ, pos, nat_abs, ◌+ℤ◌}
use Rattle.std.proofs.Math.IntN.{sub_ℕ}
use Rattle.plane.specs.Point.{limit}

-- How many numbers 16 bits hold: one more than the largest stored coordinate.
abbrev pub base : ℕ
base = 65536

-- The stored form of the largest coordinate in range.
abbrev pub stored_limit : ℕ
stored_limit = 60000

-- How many numbers 31 bits hold: one more than the largest that 32 bits hold with a sign.
abbrev pub half_range : ℕ
half_range = 2147483648

-- The whole number of a stored coordinate u, which is u − 30,000.
unfoldable pub coordinate : ℕ → ℤ
coordinate u = sub_ℕ u limit

-- The stored coordinate of a whole number from −30,000 on, which is z + 30,000.
unfoldable pub stored_of : ℤ → ℕ
stored_of z = nat_abs (z +ℤ pos limit)

-- The whole number of two file bytes, the low one first, read as two's complement (SPEC 7.2).
unfoldable pub signed16 : ℕ → ℕ → ℤ
signed16 low high = sub_ℕ (low + 256 * high) (base * (high / 128))

-- The 16 bits of a whole number in two's complement, as a natural number.
unfoldable pub word16 : ℤ → ℕ
word16 z = nat_abs (z +ℤ pos base) % base
