-- One point more: its ray is offered on the side where it is and on no other, so the least rays are those of one point more.
use mathlib.Core.Path.{◌≡◌, refl, sym, ◌∙◌}
use mathlib.Core.Logic.Dec
use mathlib.Core.Logic.{◌⊎◌, inl, inr, ⊎_elim, dite}
use mathlib.Core.List.{List}
use Prim.Native.Nat.{ℕ, ◌+◌, ◌*◌, ◌-◌, ◌≤◌, ◌<◌}
use native.Mathlib.Decide.{dec_lt, dec_le}
use native.Mathlib.Omega.{arith}
use borrow.Author.Count.{below_more}
use lib.ListN.{get_or}
use Rattle.regions.specs.Rays.{places, far_ray}
use Rattle.regions.specs.Rows.{widest_gap}
use Rattle.regions.specs.Nearest.{Side, east, west, north, south, side_offset, Complements, NoRays, along_of, ray_to, Region, Nearest, AtRows}
use Rattle.regions.specs.Nearest.{ColumnGiven, Offered, RelaxGiven, Elsewhere, Relaxed, FlatSide}
use Rattle.regions.proofs.nearest.Relaxation.{offered_in}

-- With no point there is no ray.
pub rows_none : {xs gaps ranks : List ℕ} {x count : ℕ} {least : List ℕ} → NoRays least → AtRows xs gaps ranks x 0 count least
rows_none p =
    record {
      complements = record { size = p.size; low = λ i. omega (arith, p.none i) };
      near = λ t r h. record { is = inl (omega (arith, p.none (side_offset t + r))); least = λ i l. absurd (omega arith) };
    }

module _ {rayOf : ℕ → ℕ} {Inside : ℕ → Type 0} {j : ℕ} where
  -- The same ray, found before.
  later : {k k' : ℕ} → k' ≡ k → (k ≡ far_ray) ⊎ ((i : ℕ) × (i < j) × Inside i × (k ≡ rayOf i))
      → (k' ≡ far_ray) ⊎ ((i : ℕ) × (i < j + 1) × Inside i × (k' ≡ rayOf i))
  later e = ⊎_elim (λ f. inl (e ∙ f)) (λ f. inr (f.0, omega arith, f.2, e ∙ f.3))

  nearest_more : {old new : ℕ} → Dec (Inside j) → old ≤ far_ray → rayOf j ≤ far_ray → Offered (Inside j) (rayOf j) old new
      → Nearest rayOf Inside j (far_ray - old) → Nearest rayOf Inside (j + 1) (far_ray - new)
  nearest_more (no n) h s o q =
      let e = o.unchanged n in
      record { is = later (omega arith) q.is; least = below_more _ j (λ i l m. omega (arith, q.least i l m)) (λ m. absurd (n m)) }
  nearest_more {old} (yes m) h s o q =
      let e = o.taken m in
      record {
        is = dite (dec_lt (rayOf j) (far_ray - old)) (λ l. inr (j, omega arith, m, omega arith)) (λ l. later (omega arith) q.is);
        least = below_more _ j (λ i l m'. omega (arith, q.least i l m')) (λ m'. omega arith);
      }

module _ (xs gaps ranks : List ℕ) (x r j : ℕ) where
  region_dec : (t : Side) → Dec (Region xs gaps ranks x r t j)
  region_dec east = Dec.and (dec_le x (get_or xs j 0)) (dec_le (get_or gaps (j * places + r) 0) (along_of xs x j))
  region_dec west = Dec.and (dec_lt (get_or xs j 0) x) (dec_le (get_or gaps (j * places + r) 0) (along_of xs x j))
  region_dec north = Dec.and (dec_lt r (get_or ranks j 0)) (dec_lt (along_of xs x j) (get_or gaps (j * places + r) 0))
  region_dec south = Dec.and (dec_le (get_or ranks j 0) r) (dec_lt (along_of xs x j) (get_or gaps (j * places + r) 0))

module _ {xs gaps ranks : List ℕ} {x n j count flat : ℕ} (p : ColumnGiven xs gaps ranks n count) (h : j < n) (side : FlatSide xs x j flat) where
  -- What relaxing some of the rows asks, on the north or the south side.
  pub relax_given : {from to steep : ℕ} {least : List ℕ} {along complement : ℕ} → from ≤ to → to ≤ count → side_offset north ≤ steep → steep ≤ side_offset south
      → Complements least → along < widest_gap + places → complement ≡ far_ray - along
      → RelaxGiven gaps (j * places) from to along complement least steep flat
  relax_given l m s s' complements short leaves =
      record {
        inside = omega arith;
        rises = l;
        apart = omega arith;
        fits = omega arith;
        short = short;
        leaves = leaves;
        near = λ r g. p.near j h r (omega arith);
        complements = complements;
      }

  module _ (most : get_or ranks j 0 ≤ count) {old mid new : List ℕ}
      (a : Relaxed gaps (j * places) 0 (get_or ranks j 0) (along_of xs x j) (side_offset north) flat old mid)
      (b : Relaxed gaps (j * places) (get_or ranks j 0) count (along_of xs x j) (side_offset south) flat mid new) (r : ℕ) (l : r < count) where
    -- A place that neither run over the rows has; the flat side, which both have; and a side on which the point is not.
    same : (i : ℕ) → Elsewhere (side_offset north) flat 0 (get_or ranks j 0) i → Elsewhere (side_offset south) flat (get_or ranks j 0) count i
        → get_or new i 0 ≡ get_or old i 0
    same i f g = b.rest i g ∙ a.rest i f

    on_flat_lem : {A : Type 0} → A
        → Offered (A × (get_or gaps (j * places + r) 0 ≤ along_of xs x j)) (ray_to xs gaps x r j) (get_or old (flat + r) 0) (get_or new (flat + r) 0)
    on_flat_lem o =
        dite (dec_lt r (get_or ranks j 0))
        (λ g. offered_in o refl (b.rest (flat + r) (λ k u v. omega arith)) (a.on_flat r g (omega arith)))
        (λ g. offered_in o (sym (a.rest (flat + r) (λ k u v. omega arith))) refl (b.on_flat r l (omega arith)))

    none_there : {P : Type 0} {k u v : ℕ} → ¬ P → v ≡ u → Offered P k u v
    none_there n e = record { taken = λ q. absurd (n q); unchanged = λ _. e }

    -- The point's ray was offered where the point is.
    offered : (t : Side) → Offered (Region xs gaps ranks x r t j) (ray_to xs gaps x r j) (get_or old (side_offset t + r) 0) (get_or new (side_offset t + r) 0)
    offered east =
        ⊎_elim
        (λ s. none_there (λ q. omega arith) (same (side_offset east + r) (λ k u v. omega arith) (λ k u v. omega arith)))
        (λ s. rw s.1 at (on_flat_lem s.0))
        side.is
    offered west =
        ⊎_elim
        (λ s. rw s.1 at (on_flat_lem s.0))
        (λ s. none_there (λ q. omega arith) (same (side_offset west + r) (λ k u v. omega arith) (λ k u v. omega arith)))
        side.is
    offered north =
        dite (dec_lt r (get_or ranks j 0))
        (λ g. offered_in g refl (b.rest (side_offset north + r) (λ k u v. omega arith)) (a.on_steep r g (omega arith)))
        (λ g. none_there (λ q. g q.0) (same (side_offset north + r) (λ k u v. omega arith) (λ k u v. omega arith)))
    offered south =
        dite (dec_lt r (get_or ranks j 0))
        (λ g. none_there (λ q. omega arith) (same (side_offset south + r) (λ k u v. omega arith) (λ k u v. omega arith)))
        (λ g. offered_in (omega arith) (sym (a.rest (side_offset south + r) (λ k u v. omega arith))) refl (b.on_steep r l (omega arith)))

  pub point_more : {along : ℕ} {old mid new : List ℕ} → along ≡ along_of xs x j → along_of xs x j < widest_gap + places
      → Relaxed gaps (j * places) 0 (get_or ranks j 0) along (side_offset north) flat old mid
      → Relaxed gaps (j * places) (get_or ranks j 0) count along (side_offset south) flat mid new
      → AtRows xs gaps ranks x j count old → AtRows xs gaps ranks x (j + 1) count new
  point_more {along} {old} ea short a b q =
      record {
        complements = b.complements;
        near = λ t r l. nearest_more (region_dec xs gaps ranks x r j t) (q.complements.low (side_offset t + r)) (omega (arith, p.near j h r l))
            (offered (p.ranked j h) (rw ea at a) (rw ea at b) r l t) (q.near t r l);
      }
