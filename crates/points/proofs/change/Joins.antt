-- A point that joins or leaves: the codes stay arranged, and the state changes by that point.
use mathlib.Core.Path.{◌≡◌, ap, ◌∙◌, subst}
use mathlib.Core.Logic.{◌⊎◌, ⊎_elim}
use mathlib.Core.List.{List, map, Memᴰ}
use Prim.Native.Nat.{ℕ, ◌+◌, ◌≤◌, ◌<◌}
use native.Mathlib.Omega.{arith}
use lib.Dec.{T, ltb}
use lib.ListN.{length, take}
use Rattle.arrays.specs.Array.{Removed}
use Rattle.arrays.specs.Paste.{Pasted}
use Rattle.arrays.specs.Set.{put, out}
use Rattle.arrays.proofs.Order.{nat_order}
use Rattle.arrays.proofs.Set.{put_in, out_in}
use Rattle.arrays.proofs.paste.Parts.{front-take, front-count}
use Rattle.sorted.proofs.Results.{removed_part, put-most, out-most}
use Rattle.plane.specs.Code.{point_of, is_code}
use Rattle.plane.specs.Point.{lower}
use Rattle.plane.proofs.codes.Sets.{points-put, points-out}
use Rattle.model.specs.State.{max_pins, with_pin, without_pin, without}
use Rattle.model.specs.Round.{with_steiner}
use Rattle.points.specs.declared.Points.{Points}
use Rattle.points.specs.Coded.{max_points, places, state_of, Codes, Arranged}
use Rattle.points.proofs.Codes.{codes_full, codes-put, codes-out}

-- What is in a set after a code is put in, or taken out.
module _ (a a' : List ℕ) (n r k : ℕ) where
  pub put_member : Pasted (put ltb k (take n a)) a a' 0 r → (q : ℕ) → Memᴰ q (take r a') → (q ≡ k) ⊎ Memᴰ q (take n a)
  put_member x q i = (put_in ltb nat_order k q (take n a)).0 (subst (λ (l : List ℕ). Memᴰ q l) (front-take x) i)

  pub out_member : Removed (out ltb k (take n a)) a a' n r → (q : ℕ) → Memᴰ q (take r a') → Memᴰ q (take n a) × ¬ (q ≡ k)
  out_member x q i = (out_in ltb nat_order k q (take n a)).0 (subst (λ (l : List ℕ). Memᴰ q l) (removed_part (out ltb k (take n a)) a a' n r x) i)

  -- The points of the set.
  pub put-points : (room : ℕ) → T (is_code k) → Codes a n room → Pasted (put ltb k (take n a)) a a' 0 r
      → map point_of (take r a') ≡ put lower (point_of k) (map point_of (take n a))
  put-points room c s x = ap (map point_of) (front-take x) ∙ points-put k c (take n a) s.codes

  pub out-points : (room : ℕ) → T (is_code k) → Codes a n room → Removed (out ltb k (take n a)) a a' n r
      → map point_of (take r a') ≡ out lower (point_of k) (map point_of (take n a))
  out-points room c s x = ap (map point_of) (removed_part (out ltb k (take n a)) a a' n r x) ∙ points-out k c (take n a) s.codes

  -- How many there are.
  pub put-few : (room : ℕ) → Codes a n room → Pasted (put ltb k (take n a)) a a' 0 r → r ≤ n + 1
  put-few room s x = omega (arith, front-count x, put-most k (take n a), codes_full s)

  pub out-few : (room : ℕ) → Codes a n room → Removed (out ltb k (take n a)) a a' n r → r ≤ n
  out-few room s x = omega (arith, x.count, out-most k (take n a), codes_full s)

module _ (q : Points) (s : Arranged q) (k : ℕ) (c : T (is_code k)) where
  -- A pin joins.
  pub with_pin_lem : (pins : List ℕ) (p : ℕ) (steiner : List ℕ) (t : ℕ) → (q.npins < max_pins) × (q.npins + q.nsteiner < max_points)
      → Pasted (put ltb k (take q.npins q.pins)) q.pins pins 0 p → length pins ≡ length q.pins
      → Removed (out ltb k (take q.nsteiner q.steiner)) q.steiner steiner q.nsteiner t → length steiner ≡ length q.steiner
      → let r : Points = record { pins = pins; npins = p; steiner = steiner; nsteiner = t } in Arranged r × (state_of r ≡ with_pin (point_of k) (state_of q))
  with_pin_lem pins p steiner t h x sx y sy = (
    record {
      pin_codes = codes-put q.pins pins q.npins p max_pins k s.pin_codes c h.0 x sx;
      steiner_codes = codes-out q.steiner steiner q.nsteiner t places k s.steiner_codes y sy;
      room =
          omega (
            arith,
            h.1,
            put-few q.pins pins q.npins p k max_pins s.pin_codes x,
            out-few q.steiner steiner q.nsteiner t k places s.steiner_codes y,
          );
      apart =
          λ z i j. let m = out_member q.steiner steiner q.nsteiner t k y z j in ⊎_elim m.1 (λ l. s.apart z l m.0)
          (put_member q.pins pins q.npins p k x z i);
    },
    λ i. record {
      pins = put-points q.pins pins q.npins p k max_pins c s.pin_codes x i;
      steiner = out-points q.steiner steiner q.nsteiner t k places c s.steiner_codes y i;
    },
  )

  -- A pin leaves.
  pub without_pin_lem : (pins : List ℕ) (p : ℕ) → Removed (out ltb k (take q.npins q.pins)) q.pins pins q.npins p → length pins ≡ length q.pins
      → let r : Points = record { pins = pins; npins = p; steiner = q.steiner; nsteiner = q.nsteiner } in
      Arranged r × (state_of r ≡ without_pin (point_of k) (state_of q))
  without_pin_lem pins p x sx = (
    record {
      pin_codes = codes-out q.pins pins q.npins p max_pins k s.pin_codes x sx;
      steiner_codes = s.steiner_codes;
      room = omega (arith, s.room, out-few q.pins pins q.npins p k max_pins s.pin_codes x);
      apart = λ z i j. s.apart z (out_member q.pins pins q.npins p k x z i).0 j;
    },
    λ i. record { pins = out-points q.pins pins q.npins p k max_pins c s.pin_codes x i; steiner = (state_of q).steiner },
  )

  -- A Steiner point joins.
  pub with_steiner_lem : (steiner : List ℕ) (t : ℕ) → q.npins + q.nsteiner < max_points → (Memᴰ k (take q.npins q.pins) → ⊥)
      → Pasted (put ltb k (take q.nsteiner q.steiner)) q.steiner steiner 0 t → length steiner ≡ length q.steiner
      → let r : Points = record { pins = q.pins; npins = q.npins; steiner = steiner; nsteiner = t } in
      Arranged r × (state_of r ≡ with_steiner (point_of k) (state_of q))
  with_steiner_lem steiner t h free x sx = (
    record {
      pin_codes = s.pin_codes;
      steiner_codes = codes-put q.steiner steiner q.nsteiner t places k s.steiner_codes c (omega arith) x sx;
      room = omega (arith, h, put-few q.steiner steiner q.nsteiner t k places s.steiner_codes x);
      apart =
          λ z i j. ⊎_elim (λ e. free (subst (λ (y : ℕ). Memᴰ y (take q.npins q.pins)) e i)) (s.apart z i)
          (put_member q.steiner steiner q.nsteiner t k x z j);
    },
    λ i. record { pins = (state_of q).pins; steiner = put-points q.steiner steiner q.nsteiner t k places c s.steiner_codes x i },
  )

  -- A Steiner point leaves.
  pub without-steiner : (steiner : List ℕ) (t : ℕ) → Removed (out ltb k (take q.nsteiner q.steiner)) q.steiner steiner q.nsteiner t
      → length steiner ≡ length q.steiner
      → let r : Points = record { pins = q.pins; npins = q.npins; steiner = steiner; nsteiner = t } in Arranged r
      × (state_of r ≡ without (point_of k) (state_of q))
  without-steiner steiner t x sx = (
    record {
      pin_codes = s.pin_codes;
      steiner_codes = codes-out q.steiner steiner q.nsteiner t places k s.steiner_codes x sx;
      room = omega (arith, s.room, out-few q.steiner steiner q.nsteiner t k places s.steiner_codes x);
      apart = λ z i j. s.apart z i (out_member q.steiner steiner q.nsteiner t k x z j).0;
    },
    λ i. record { pins = (state_of q).pins; steiner = out-points q.steiner steiner q.nsteiner t k places c s.steiner_codes x i },
  )
