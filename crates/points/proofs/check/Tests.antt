-- The tests on arrays of codes pass exactly where the codes are arranged.
use mathlib.Core.Path.{◌≡◌, ap, ◌∙◌}
use mathlib.Core.Logic.{◌↔◌}
use mathlib.Core.Bool.{Bool, not, ◌&&◌}
use mathlib.Core.List.{List, Memᴰ}
use Prim.Native.Nat.{ℕ, ◌+◌, ◌-◌, ◌≤◌}
use native.Mathlib.Omega.{arith}
use lib.Dec.{T, ltb, leb, leb→le}
use lib.ListN.{length, take, drop, replicate, length-drop}
use borrow.Author.Tests.{le-leb}
use Rattle.arrays.specs.Array.{none_in, all_zero}
use Rattle.arrays.specs.Set.{rising, all, has}
use Rattle.arrays.proofs.Order.{nat_order}
use Rattle.arrays.proofs.Set.{all_in, has_not}
use Rattle.arrays.proofs.Test.{and_parts, and_both, true_of, of_true}
use Rattle.sorted.proofs.Zeros.{all_zero_lem}
use Rattle.plane.specs.Code.{is_code}
use Rattle.model.specs.State.{max_pins}
use Rattle.points.specs.declared.Points.{Points}
use Rattle.points.specs.Coded.{max_points, places, ordered, arranged, Codes, Arranged}

-- A set of codes with zeros behind, as a test and as facts.
pub ordered-codes : (a : List ℕ) (n room : ℕ) → length a ≡ room → n ≤ room → T (ordered a n) → Codes a n room
ordered-codes a n room e h t =
    let p = and_parts (all is_code (take n a)) (rising ltb (take n a) && all_zero (drop n a)) t in
    let q = and_parts (rising ltb (take n a)) (all_zero (drop n a)) p.1 in
    record {
      size = e;
      few = h;
      codes = (all_in is_code (take n a)).0 p.0;
      rise = true_of (rising ltb (take n a)) q.0;
      rest = (all_zero_lem (drop n a)).0 q.1 ∙ zeros;
    }
  where
    left : length (drop n a) ≡ room - n
    left = omega (arith, length-drop n a, e)

    zeros : replicate {A = ℕ} (length (drop n a)) 0 ≡ replicate (room - n) 0
    zeros = ap (λ (z : ℕ). replicate z 0) left

pub codes-ordered : (a : List ℕ) (n room : ℕ) → Codes a n room → T (ordered a n)
codes-ordered a n room c =
    and_both (all is_code (take n a)) (rising ltb (take n a) && all_zero (drop n a)) ((all_in is_code (take n a)).1 c.codes)
    (and_both (rising ltb (take n a)) (all_zero (drop n a)) (of_true c.rise) ((all_zero_lem (drop n a)).1 (c.rest ∙ zeros)))
  where
    left : room - n ≡ length (drop n a)
    left = omega (arith, length-drop n a, c.size)

    zeros : replicate {A = ℕ} (room - n) 0 ≡ replicate (length (drop n a)) 0
    zeros = ap (λ (z : ℕ). replicate z 0) left

pub none_apart : (a b : List ℕ) → T (none_in b a) ↔ ((k : ℕ) → Memᴰ k a → Memᴰ k b → ⊥)
none_apart a b = (
  λ t k i. (has_not ltb nat_order k b).0 ((all_in (λ (z : ℕ). not (has ltb z b)) a).0 t k i),
  λ f. (all_in (λ (z : ℕ). not (has ltb z b)) a).1 (λ k i. (has_not ltb nat_order k b).1 (f k i)),
)

-- All tests in turn.
module _ (q : Points) where
  apart : Bool
  apart = none_in (take q.nsteiner q.steiner) (take q.npins q.pins)

  pins : Bool
  pins = ordered q.pins q.npins

  steiner : Bool
  steiner = ordered q.steiner q.nsteiner

  few : Bool
  few = leb (q.npins + q.nsteiner) max_points

  pub arranged_passes : Arranged q → T (arranged q)
  unfolding apart pins steiner few
  arranged_passes s =
      and_both (leb q.npins max_pins) (few && (pins && (steiner && apart))) (of_true (le-leb q.npins max_pins s.pin_codes.few))
      (and_both few (pins && (steiner && apart)) (of_true (le-leb (q.npins + q.nsteiner) max_points s.room))
      (and_both pins (steiner && apart) (codes-ordered q.pins q.npins max_pins s.pin_codes)
      (and_both steiner apart (codes-ordered q.steiner q.nsteiner places s.steiner_codes)
      ((none_apart (take q.npins q.pins) (take q.nsteiner q.steiner)).1 s.apart))))

  pub passes_arranged : length q.pins ≡ max_pins → length q.steiner ≡ places → T (arranged q) → Arranged q
  unfolding apart pins steiner few
  passes_arranged h k t =
      let a = and_parts (leb q.npins max_pins) (few && (pins && (steiner && apart))) t in
      let b = and_parts few (pins && (steiner && apart)) a.1 in
      let e = and_parts pins (steiner && apart) b.1 in
      let f = and_parts steiner apart e.1 in
      let n : q.npins ≤ max_pins = leb→le q.npins max_pins a.0 in
      let m : q.npins + q.nsteiner ≤ max_points = leb→le (q.npins + q.nsteiner) max_points b.0 in
      record {
        pin_codes = ordered-codes q.pins q.npins max_pins h n e.0;
        steiner_codes = ordered-codes q.steiner q.nsteiner places k (omega (arith, m)) f.0;
        room = m;
        apart = (none_apart (take q.npins q.pins) (take q.nsteiner q.steiner)).0 f.1;
      }
