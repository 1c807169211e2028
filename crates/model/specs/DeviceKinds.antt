-- The kinds of devices (SPEC 1.7): 0 a sensor, 1 a display, 2 a lane controller.
use Rattle.std.specs.Prelude.{Bool, List, ℕ, leb, length, replicate}
use Rattle.arrays.specs.Set.{all}
use Rattle.plane.specs.Point.{Point}

abbrev pub sensor : ℕ
sensor = 0

abbrev pub largest_kind : ℕ
largest_kind = 2

-- Whether a number is a kind.
abbrev pub is_kind : ℕ → Bool
is_kind k = leb k largest_kind

-- The kinds of pins that are all sensors.
abbrev pub sensors : List Point → List ℕ
sensors pins = replicate (length pins) sensor

-- Whether all kinds are those of sensors.
abbrev pub sensors_only : List ℕ → Bool
sensors_only kinds = all (λ (k : ℕ). leb k sensor) kinds
