-- The state of a deck: its pins and its Steiner points (SPEC 1.2: taps). What joins, leaves and is swept (SPEC 4.1 to 4.3).
use Rattle.std.specs.Prelude.{Bool, not, ◌&&◌, ℕ, zero, suc, ◌≤◌, T, leb, length}
use Rattle.std.proofs.Math.Option.{Option, none, some}
use mathlib.Core.List.{List, [], ◌∷◌, Memᴰ}
use Rattle.arrays.specs.Order.{Sorted}
use Rattle.arrays.specs.Test.{if}
use Rattle.plane.specs.Point.{Point, in_range, lower, Lower}
use Rattle.plane.specs.Edge.{Edge}
use Rattle.arrays.specs.Set.{put, out, has, union, rising, all}
use Rattle.model.specs.Tree.{mst, edges_at}

-- The pins and the Steiner points of a deck.
pub record State : Type 0 where
  pub pins : List Point
  pub steiner : List Point

-- A deck with no pin and no Steiner point.
abbrev pub empty : State
empty = record { pins = []; steiner = [] }

-- All points held, lower first.
unfoldable pub points : State → List Point
points s = union lower s.pins s.steiner

-- The most pins that a deck holds (SPEC 1.2).
abbrev pub max_pins : ℕ
max_pins = 64

-- A tap that a sweep leaves in the tree t: it has three runs there at least (SPEC 4.1).
abbrev pub strong : List Edge → Point → Bool
strong t q = leb 3 (edges_at q t)

-- Points in range, strictly rising and at different places (SPEC 1.2, 7.2).
pub record Placed (s : State) : Type 0 where
  pub pins_range : (p : Point) → Memᴰ p s.pins → T (in_range p)
  pub steiner_range : (p : Point) → Memᴰ p s.steiner → T (in_range p)
  pub pins_rise : Sorted Lower s.pins
  pub steiner_rise : Sorted Lower s.steiner
  pub apart : (p : Point) → Memᴰ p s.pins → Memᴰ p s.steiner → ⊥

-- A valid state, which is what SPEC 5.2 asks of the points of a sound deck: at most 64 pins; points in range, strictly rising and at
-- different places; each Steiner point with three edges or more.
pub record Valid (s : State) : Type 0 where
  pub few : length s.pins ≤ max_pins
  pub placed : Placed s
  pub branching : (q : Point) → Memᴰ q s.steiner → 3 ≤ edges_at q (mst (points s))

-- `Placed` as a test.
unfoldable pub placed : State → Bool
placed s =
    all in_range s.pins
    && (all in_range s.steiner
    && (rising lower s.pins
    && (rising lower s.steiner && all (λ (p : Point). not (has lower p s.steiner)) s.pins)))

-- Validity as a test.
unfoldable pub valid : State → Bool
valid s =
    let t = mst (points s) in
    leb (length s.pins) max_pins && (placed s && all (strong t) s.steiner)

-- The first of a rising list of points with at most two edges in the tree t, so the lowest.
unfoldable pub lowest_weak : List Edge → List Point → Option Point
lowest_weak t [] = none
lowest_weak t (q ∷ l) = if (strong t q) (λ _. lowest_weak t l) (λ _. some q)

-- The state without the Steiner point q.
abbrev pub without : Point → State → State
without q s = record { pins = s.pins; steiner = out lower q s.steiner }

-- The sweep, for at most as many removals as the first number says, each by the tree of the points held then (SPEC 4.1).
unfoldable pub prune_from : ℕ → State → State
prune_from zero s = s
prune_from (suc k) s =
    let t = mst (points s) in
    elim (lowest_weak t s.steiner) [
      | none ↦ s
      | some q ↦ prune_from k (without q s)
    ]

-- The sweep (SPEC 4.1; the field's word is prune). No more can be taken out than there are Steiner points.
unfoldable pub prune : State → State
prune s = prune_from (length s.steiner) s

-- The state with a pin at p, where no Steiner point stands then; the state without it.
abbrev pub with_pin : Point → State → State
with_pin p s = record { pins = put lower p s.pins; steiner = out lower p s.steiner }

abbrev pub without_pin : Point → State → State
without_pin p s = record { pins = out lower p s.pins; steiner = s.steiner }

-- Adding a pin (SPEC 4.2), on a tap too.
unfoldable pub insert : Point → State → State
insert p s = prune (with_pin p s)

-- Withdrawing a pin (SPEC 4.3).
unfoldable pub remove : Point → State → State
remove p s = prune (without_pin p s)
