-- Points and states correspond: the points of a valid state are arranged and stand for it, and arranged points are those of their state.
use mathlib.Core.Path.{◌≡◌, refl, sym, ap, ap₂, ◌∙◌, subst⁻¹}
use mathlib.Core.Logic.{⊎_elim}
use mathlib.Core.List.{List, ◌++◌, map, Memᴰ}
use Prim.Native.Nat.{ℕ, ◌+◌, ◌-◌, ◌≤◌}
use native.Mathlib.Omega.{arith}
use lib.ListN.{length, take, replicate, length-map, take-append-drop}
use Rattle.plane.specs.Point.{Point, lower}
use Rattle.plane.specs.Code.{code, point_of}
use Rattle.plane.proofs.Order.{lower-order}
use Rattle.plane.proofs.codes.Points.{map-codes, map-points}
use Rattle.arrays.proofs.Set.{rising-sorted}
use Rattle.model.specs.State.{State, Placed, Valid, max_pins}
use Rattle.model.proofs.Candidate.{map_in}
use Rattle.model.proofs.Prune.{few-steiner}
use Rattle.points.specs.declared.Points.{Points}
use Rattle.points.specs.Coded.{places, padded, coded, state_of, Codes, Arranged}
use Rattle.points.proofs.Codes.{codes_full, padded-take, padded-codes}

-- The state of the points of a placed state is the state.
pub state-coded : (s : State) → Placed s → state_of (coded s) ≡ s
unfolding coded
state-coded s p =
    λ i. record {
      pins =
          (ap (map point_of) (padded-take max_pins (map code s.pins) (length s.pins) (length-map s.pins code))
          ∙ map-codes s.pins p.pins_range) i;
      steiner =
          (ap (map point_of) (padded-take places (map code s.steiner) (length s.steiner) (length-map s.steiner code))
          ∙ map-codes s.steiner p.steiner_range) i;
    }

-- A valid state has at most 126 points.
pub valid-few : (s : State) → Valid s → length s.pins + length s.steiner ≤ 126
valid-few s v = ⊎_elim (λ e. omega (arith, e, v.few)) (λ h. omega (arith, h, v.few)) (few-steiner s v)

-- Codes are apart where their points are.
pub apart-codes : (q : Points) → ((p : Point) → Memᴰ p (state_of q).pins → Memᴰ p (state_of q).steiner → ⊥)
    → (k : ℕ) → Memᴰ k (take q.npins q.pins) → Memᴰ k (take q.nsteiner q.steiner) → ⊥
apart-codes q f k i j =
    f (point_of k) ((map_in point_of (take q.npins q.pins) (point_of k)).1 (k, i, refl))
    ((map_in point_of (take q.nsteiner q.steiner) (point_of k)).1 (k, j, refl))

-- The points of a valid state are arranged.
pub valid-arranged : (s : State) → Valid s → Arranged (coded s)
unfolding coded
valid-arranged s v =
    let p = v.placed in
    record {
      pin_codes = padded-codes max_pins s.pins p.pins_range v.few ((rising-sorted lower lower-order s.pins).1 p.pins_rise);
      steiner_codes =
          padded-codes places s.steiner p.steiner_range (omega (arith, valid-few s v)) ((rising-sorted lower lower-order s.steiner).1 p.steiner_rise);
      room = omega (arith, valid-few s v);
      apart = apart-codes (coded s)
          (subst⁻¹ (λ (z : State). (r : Point) → Memᴰ r z.pins → Memᴰ r z.steiner → ⊥) (state-coded s p) p.apart);
    }

-- How many pins and Steiner points the state of arranged points has.
module _ (q : Points) (r : Arranged q) where
  pub pins-count : length (state_of q).pins ≡ q.npins
  pins-count = length-map (take q.npins q.pins) point_of ∙ codes_full r.pin_codes

  pub steiner_count_lem : length (state_of q).steiner ≡ q.nsteiner
  steiner_count_lem = length-map (take q.nsteiner q.steiner) point_of ∙ codes_full r.steiner_codes

  -- Arranged points are those of their state.
  pub arranged-coded : q ≡ coded (state_of q)
  unfolding coded
  arranged-coded =
      λ i. record {
        pins = kept q.pins q.npins max_pins r.pin_codes i;
        npins = sym pins-count i;
        steiner = kept q.steiner q.nsteiner places r.steiner_codes i;
        nsteiner = sym steiner_count_lem i;
      }
    where
      kept : (a : List ℕ) (n room : ℕ) → Codes a n room → a ≡ padded room (map code (map point_of (take n a)))
      kept a n room c =
          sym (take-append-drop n a) ∙ ap₂ ◌++◌ (sym (map-points (take n a) c.codes)) (c.rest ∙ ap (λ (z : ℕ). replicate (room - z) 0) (sym size))
        where
          size : length (map code (map point_of (take n a))) ≡ n
          size = length-map (map point_of (take n a)) code ∙ length-map (take n a) point_of ∙ codes_full c
