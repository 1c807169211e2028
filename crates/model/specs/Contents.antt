-- The contents of a deck: all that it holds but its tree. Decks, files, calls and their refusals, questions and listings are of contents;
-- what goes on among the points up to a round and a run to the end is of the state in them.
use Rattle.std.specs.Prelude.{◌≡◌, Bool, ◌&&◌, ℕ, ◌≤◌, eqb, length}
use mathlib.Core.List.{List, map, Memᴰ}
use Rattle.arrays.specs.Beside.{beside}
use Rattle.arrays.specs.Set.{all}
use Rattle.plane.specs.Point.{Point, lower}
use Rattle.model.specs.State.{State, empty, Valid, valid}
use Rattle.model.specs.DeviceKinds.{sensor, largest_kind, is_kind, sensors}
use Rattle.model.specs.Tail.{no_tail, longest_tail, is_tail}

-- The contents of a deck (SPEC 5.2): its pins and taps, the kind of each pin, in the order of the pins, and the tail length.
pub record Contents : Type 0 where
  pub state : State
  pub kinds : List ℕ
  pub tail : ℕ

-- The kind of the pin at p (SPEC 1.7), `other` where no pin stands there.
abbrev pub kind_or : ℕ → Contents → Point → ℕ
kind_or other c p = beside lower other p c.state.pins c.kinds

-- The same, that of a sensor where no pin stands there.
abbrev pub kind_at : Contents → Point → ℕ
kind_at c p = kind_or sensor c p

-- Contents are made by the next six alone, so that a further field moves few places. Those of a state and the kinds of its pins, without tails.
abbrev pub with_kinds : State → List ℕ → Contents
with_kinds s kinds = record { state = s; kinds = kinds; tail = no_tail }

-- Those with another tail length, and all else kept.
abbrev pub with_tail : ℕ → Contents → Contents
with_tail tail c = record { state = c.state; kinds = c.kinds; tail = tail }

-- Those of a state with sensors only, and nothing else set.
abbrev pub of_state : State → Contents
of_state s = with_kinds s (sensors s.pins)

-- Those with another state of the same pins, and all else kept.
abbrev pub keeping : Contents → State → Contents
keeping c s = record { state = s; kinds = c.kinds; tail = c.tail }

-- Those with another state, where the kinds follow their pins (SPEC 4.2, 4.3): each pin that c has keeps its kind, any other takes kind k.
abbrev pub following : ℕ → Contents → State → Contents
following k c s = record { state = s; kinds = map (kind_or k c) s.pins; tail = c.tail }

-- Those of a deck with these pins, sensors all, and these taps.
abbrev pub holding : List Point → List Point → Contents
holding pins taps = of_state (record { pins = pins; steiner = taps })

-- A deck that holds nothing.
abbrev pub empty_contents : Contents
empty_contents = of_state empty

-- What SPEC 5.2 asks of the contents of a sound deck.
pub record ValidContents (c : Contents) : Type 0 where
  pub state : Valid c.state
  pub kind_count : length c.kinds ≡ length c.state.pins
  pub known : (k : ℕ) → Memᴰ k c.kinds → k ≤ largest_kind
  pub tailed : c.tail ≤ longest_tail

-- The same as a test.
abbrev pub valid_contents : Contents → Bool
valid_contents c =
    valid c.state && (eqb (length c.kinds) (length c.state.pins) && (all is_kind c.kinds && is_tail c.tail))
