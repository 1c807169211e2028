-- The kinds of pins: those of sensors alone, and those that a change leaves. Valid contents, by their makers.
use mathlib.Core.Path.{◌≡◌, refl, ap₂, subst, subst⁻¹}
use mathlib.Core.Logic.{⊎_elim, ◌↔◌}
use mathlib.Core.Bool.{Bool, true, false}
use mathlib.Core.List.Memᴰ.{cases_cons as cases}
use mathlib.Core.List.Memᴰ.{head}
use mathlib.Core.List.Memᴰ.{tail as later}
use mathlib.Core.List.{List, [], ◌∷◌, map, Memᴰ}
use mathlib.Core.List.Memᴰ.{not-nil}
use Prim.Native.Nat.{ℕ, zero, suc, ◌≤◌}
use native.Mathlib.Omega.{arith}
use lib.Dec.{T, leb, leb→le, le→leb, eqb, eqb→eq}
use lib.Ieee.Fits.{eq→eqb}
use lib.ListN.{length, replicate, length-replicate, length-map}
use Rattle.arrays.specs.Set.{all}
use Rattle.arrays.proofs.Beside.{beside_one, beside_all}
use Rattle.arrays.proofs.Set.{all_in}
use Rattle.arrays.proofs.Test.{and_parts, and_both, of_true}
use Rattle.plane.specs.Point.{Point, lower}
use Rattle.plane.proofs.Order.{lower-order}
use Rattle.model.specs.State.{State, Valid, valid}
use Rattle.model.specs.DeviceKinds.{sensor, largest_kind, is_kind, sensors_only}
use Rattle.model.specs.Contents.{Contents, kind_at, with_tail, of_state, keeping, following, ValidContents, valid_contents}
use Rattle.model.specs.Tail.{longest_tail}
use Rattle.model.proofs.Candidate.{map_in}
use Rattle.model.proofs.Validity.{both_is, valid_is}

-- Sensors alone.
sensors_in : (n k : ℕ) → Memᴰ k (replicate n sensor) → k ≡ sensor
sensors_in zero k i = absurd (not-nil i)
sensors_in (suc n) k i = ⊎_elim (λ e. e) (sensors_in n k) (cases i)

pub sensors_are : (kinds : List ℕ) → T (sensors_only kinds) → kinds ≡ replicate (length kinds) sensor
unfolding all
sensors_are [] t = refl
sensors_are (k ∷ l) t =
    let p = and_parts (leb k sensor) (sensors_only l) t in
    let e : k ≡ sensor = omega (arith, leb→le k sensor p.0) in
    ap₂ ◌∷◌ e (sensors_are l p.1)

pub sensors_pass : (n : ℕ) → T (sensors_only (replicate n sensor))
sensors_pass n = (all_in (λ (k : ℕ). leb k sensor) (replicate n sensor)).1 (λ k i. le→leb k sensor (omega (arith, sensors_in n k i)))

-- Kinds, as a test and one by one.
pub kinds-known : (kinds : List ℕ) → T (all is_kind kinds) ↔ ((k : ℕ) → Memᴰ k kinds → k ≤ largest_kind)
kinds-known kinds = (
  λ t k i. leb→le k largest_kind ((all_in is_kind kinds).0 t k i),
  λ f. (all_in is_kind kinds).1 (λ k i. le→leb k largest_kind (f k i)),
)

-- Valid contents, by the makers of contents.
pub of_state-valid : {s : State} → Valid s → ValidContents (of_state s)
of_state-valid {s} v =
    record {
      state = v;
      kind_count = length-replicate {A = ℕ} (length s.pins) sensor;
      known = λ k i. omega (arith, sensors_in (length s.pins) k i);
      tailed = omega arith;
    }

pub keeping-valid : {c : Contents} {s : State} → ValidContents c → Valid s → s.pins ≡ c.state.pins → ValidContents (keeping c s)
keeping-valid {c} v w same =
    record { state = w; kind_count = subst⁻¹ (λ (l : List Point). length c.kinds ≡ length l) same v.kind_count; known = v.known; tailed = v.tailed }

pub with_tail-valid : {c : Contents} {tail : ℕ} → ValidContents c → tail ≤ longest_tail → ValidContents (with_tail tail c)
with_tail-valid v h = record { state = v.state; kind_count = v.kind_count; known = v.known; tailed = h }

pub following-valid : (k : ℕ) {c : Contents} {s : State} → k ≤ largest_kind → ValidContents c → Valid s → ValidContents (following k c s)
following-valid k {c} {s} h v w =
    record {
      state = w;
      kind_count = length-map s.pins _;
      known = λ j i. let from = (map_in _ s.pins j).0 i in
          subst⁻¹ (λ (z : ℕ). z ≤ largest_kind) from.2 (beside_one lower (λ (z : ℕ). z ≤ largest_kind) k h from.0 c.state.pins c.kinds v.known);
      tailed = v.tailed;
    }

pub valid_contents_is : (c : Contents) → T (valid_contents c) ↔ ValidContents c
valid_contents_is c = (
  λ t. let r = parts.0 t in
      record { state = r.0; kind_count = r.1.0; known = r.1.1.0; tailed = r.1.1.1 },
  λ v. parts.1 (v.state, (v.kind_count, (v.known, v.tailed))),
)
  where
    parts : T (valid_contents c)
        ↔ (Valid c.state
        × ((length c.kinds ≡ length c.state.pins) × (((k : ℕ) → Memᴰ k c.kinds → k ≤ largest_kind) × (c.tail ≤ longest_tail))))
    parts =
        both_is (valid c.state) _ (valid_is c.state)
        (both_is (eqb (length c.kinds) (length c.state.pins)) _ (eqb→eq (length c.kinds) (length c.state.pins), eq→eqb)
        (both_is (all is_kind c.kinds) _ (kinds-known c.kinds) (leb→le c.tail longest_tail, le→leb c.tail longest_tail)))

-- The kinds of valid contents, one pin after the other.
pub kinds_are : (c : Contents) → ValidContents c → map (kind_at c) c.state.pins ≡ c.kinds
kinds_are c v = beside_all lower lower-order sensor c.state.pins v.state.placed.pins_rise c.kinds v.kind_count

-- Where not all are sensors, there is one that is none.
by_first : (k : ℕ) (l : List ℕ) → (¬ T (sensors_only l) → (j : ℕ) × Memᴰ j l × ¬ (j ≡ sensor)) → (t : Bool) → leb k sensor ≡ t
    → ¬ T (sensors_only (k ∷ l)) → (j : ℕ) × Memᴰ j (k ∷ l) × ¬ (j ≡ sensor)
unfolding all
by_first k l rest true e n = let r = rest (λ u. n (and_both (leb k sensor) (sensors_only l) (of_true e) u)) in (r.0, later r.1, r.2)
by_first k l rest false e n = (k, head refl, λ z. subst T e (le→leb k sensor (omega (arith, z))))

pub some_other : (l : List ℕ) → ¬ T (sensors_only l) → (k : ℕ) × Memᴰ k l × ¬ (k ≡ sensor)
unfolding all
some_other [] n = absurd (n tt)
some_other (k ∷ l) n = by_first k l (some_other l) (leb k sensor) refl n

pub not_sensors : (l : List ℕ) (k : ℕ) → Memᴰ k l → ¬ (k ≡ sensor) → ¬ T (sensors_only l)
not_sensors l k i n t = n (omega (arith, leb→le k sensor ((all_in (λ (j : ℕ). leb j sensor) l).0 t k i)))

-- They are not those of sensors alone exactly if some pin is no sensor.
pub some_device : (c : Contents) → ValidContents c → (¬ T (sensors_only c.kinds)) ↔ ((p : Point) × Memᴰ p c.state.pins × ¬ (kind_at c p ≡ sensor))
some_device c v = (
  λ n. let d = some_other c.kinds n in
      let from = (map_in (kind_at c) c.state.pins d.0).0 (subst⁻¹ (λ (l : List ℕ). Memᴰ d.0 l) (kinds_are c v) d.1) in
      (from.0, from.1, λ e. d.2 (subst⁻¹ (λ (z : ℕ). z ≡ sensor) from.2 e)),
  λ h t. let k = kind_at c h.0 in
      let held = subst (λ (l : List ℕ). Memᴰ k l) (kinds_are c v) ((map_in (kind_at c) c.state.pins k).1 (h.0, h.1, refl)) in
      not_sensors c.kinds k held h.2 t,
)
