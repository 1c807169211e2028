-- Validity is decided by a function: the tests `placed` and `valid` pass exactly for what `Placed` and `Valid` say. Each
-- part of a test is turned by its own law: every member of a list, strictly rising, not in a set, three edges or more.
use mathlib.Core.Logic.{◌↔◌}
use mathlib.Core.Bool.{Bool, not, ◌&&◌}
use mathlib.Core.List.{List, Memᴰ}
use Prim.Native.Nat.{◌≤◌}
use lib.Dec.{T, leb, leb→le, le→leb}
use lib.ListN.{length}
use Rattle.arrays.specs.Order.{Sorted}
use Rattle.plane.specs.Point.{Point, in_range, lower, Lower}
use Rattle.plane.specs.Edge.{Edge}
use Rattle.plane.proofs.Order.{lower-order}
use Rattle.arrays.proofs.Test.{and_parts, and_both}
use Rattle.arrays.specs.Set.{has, rising, all}
use Rattle.model.specs.Tree.{mst, edges_at}
use Rattle.model.specs.State.{State, points, strong, max_pins, Placed, Valid, placed, valid}
use Rattle.arrays.proofs.Set.{all_in, has_not, rising-sorted}

-- Two tests, each of which decides a statement, decide both.
pub both_is : (a b : Bool) {A B : Type 0} → T a ↔ A → T b ↔ B → T (a && b) ↔ (A × B)
both_is a b f g =
    (λ t. (f.0 (and_parts a b t).0, g.0 (and_parts a b t).1), λ p. and_both a b (f.1 p.0) (g.1 p.1))

pub placed_is : (s : State) → T (placed s) ↔ Placed s
unfolding placed
placed_is s = (
  λ t. let r = parts.0 t in
      record { pins_range = r.0; steiner_range = r.1.0; pins_rise = r.1.1.0; steiner_rise = r.1.1.1.0; apart = r.1.1.1.1 },
  λ h. parts.1 (h.pins_range, (h.steiner_range, (h.pins_rise, (h.steiner_rise, h.apart)))),
)
  where
    apart : T (all (λ (p : Point). not (has lower p s.steiner)) s.pins)
        ↔ ((p : Point) → Memᴰ p s.pins → Memᴰ p s.steiner → ⊥)
    apart =
        let each = all_in (λ (p : Point). not (has lower p s.steiner)) s.pins in (
          λ t p i. (has_not lower lower-order p s.steiner).0 (each.0 t p i),
          λ f. each.1 (λ p i. (has_not lower lower-order p s.steiner).1 (f p i)),
        )

    parts : T (placed s)
        ↔ (((p : Point) → Memᴰ p s.pins → T (in_range p))
        × (((p : Point) → Memᴰ p s.steiner → T (in_range p))
        × (Sorted Lower s.pins
        × (Sorted Lower s.steiner × ((p : Point) → Memᴰ p s.pins → Memᴰ p s.steiner → ⊥)))))
    parts =
        both_is (all in_range s.pins) _ (all_in in_range s.pins)
        (both_is (all in_range s.steiner) _ (all_in in_range s.steiner)
        (both_is (rising lower s.pins) _ (rising-sorted lower lower-order s.pins)
        (both_is (rising lower s.steiner) _ (rising-sorted lower lower-order s.steiner) apart)))

pub valid_is : (s : State) → T (valid s) ↔ Valid s
unfolding valid
valid_is s = (
  λ t. let r = parts.0 t in
      record { few = r.0; placed = r.1.0; branching = r.1.1 },
  λ h. parts.1 (h.few, (h.placed, h.branching)),
)
  where
    t : List Edge
    t = mst (points s)

    branching : T (all (strong t) s.steiner) ↔ ((q : Point) → Memᴰ q s.steiner → 3 ≤ edges_at q t)
    branching = (
      λ a q i. leb→le 3 (edges_at q t) ((all_in (strong t) s.steiner).0 a q i),
      λ f. (all_in (strong t) s.steiner).1 (λ q i. le→leb 3 (edges_at q t) (f q i)),
    )

    parts : T (valid s) ↔ ((length s.pins ≤ max_pins) × (Placed s × ((q : Point) → Memᴰ q s.steiner → 3 ≤ edges_at q t)))
    parts =
        both_is (leb (length s.pins) max_pins) _ (leb→le (length s.pins) max_pins, le→leb (length s.pins) max_pins)
        (both_is (placed s) _ (placed_is s) branching)
