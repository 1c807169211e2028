-- The points of a deck kept as codes, and the state that they stand for.
use Rattle.std.specs.Prelude.{◌≡◌, Bool, true, ◌&&◌, ℕ, ◌+◌, ◌-◌, ◌≤◌, T, ltb, leb, length, take, drop, replicate}
use mathlib.Core.List.{List, ◌++◌, map, Memᴰ}
use Rattle.arrays.specs.Array.{none_in, all_zero}
use Rattle.arrays.specs.Set.{rising, all}
use Rattle.plane.specs.Code.{code, point_of, is_code}
pub use Rattle.plane.specs.Places.{places}
use Rattle.model.specs.State.{State, max_pins}
use Rattle.points.specs.declared.Points.{Points}

-- The most Steiner points between calls: two less than pins, since each has three edges or more.
abbrev pub max_steiner : ℕ
max_steiner = 62

-- The most points held, which is in a round (SPEC 4.7).
abbrev pub max_points : ℕ
max_points = 127

-- A list at the front of an array of n places, with zeros behind.
abbrev pub padded : ℕ → List ℕ → List ℕ
padded n l = l ++ replicate (n - length l) 0

-- The points of a state.
unfoldable pub coded : State → Points
coded s =
    record {
      pins = padded max_pins (map code s.pins);
      npins = length s.pins;
      steiner = padded places (map code s.steiner);
      nsteiner = length s.steiner;
    }

-- The state that points stand for.
abbrev pub state_of : Points → State
state_of q = record { pins = map point_of (take q.npins q.pins); steiner = map point_of (take q.nsteiner q.steiner) }

-- The codes of a set in the first n places of an array of `room` places: codes of points in range, rising, with zeros behind.
pub record Codes (a : List ℕ) (n room : ℕ) : Type 0 where
  pub size : length a ≡ room
  pub few : n ≤ room
  pub codes : (k : ℕ) → Memᴰ k (take n a) → T (is_code k)
  pub rise : rising ltb (take n a) ≡ true
  pub rest : drop n a ≡ replicate (room - n) 0

-- Pins and Steiner points at different places, each such a set, not more than are held during a round.
pub record Arranged (q : Points) : Type 0 where
  pub pin_codes : Codes q.pins q.npins max_pins
  pub steiner_codes : Codes q.steiner q.nsteiner places
  pub room : q.npins + q.nsteiner ≤ max_points
  pub apart : (k : ℕ) → Memᴰ k (take q.npins q.pins) → Memᴰ k (take q.nsteiner q.steiner) → ⊥

-- The same as tests: the first n places hold a set of codes of points in range, and the others zeros.
abbrev pub ordered : List ℕ → ℕ → Bool
ordered a n = all is_code (take n a) && (rising ltb (take n a) && all_zero (drop n a))

-- Whether points are arranged.
abbrev pub arranged : Points → Bool
arranged q =
    leb q.npins max_pins
    && (leb (q.npins + q.nsteiner) max_points
    && (ordered q.pins q.npins
    && (ordered q.steiner q.nsteiner && none_in (take q.nsteiner q.steiner) (take q.npins q.pins))))
