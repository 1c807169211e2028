-- How long a plain file can be (SPEC 7.4).
use Rattle.std.specs.Prelude.{ℕ}

-- The bytes of the longest plain file.
abbrev pub plain_room : ℕ
plain_room = 358
