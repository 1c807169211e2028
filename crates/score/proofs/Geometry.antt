-- Of two points on one side of a crossing, the nearer is no farther from the other than the other is from the crossing. So the nearest
-- points of the four sides do for all, and their gain is what the crossing spares.
use mathlib.Core.Path.{◌≡◌, refl, ◌∙◌}
use mathlib.Core.Logic.{◌⊎◌, inl, inr, ⊎_elim, dite}
use mathlib.Core.List.Memᴰ.{head}
use mathlib.Core.List.Memᴰ.{not-nil}
use mathlib.Core.List.Memᴰ.{tail}
use mathlib.Core.List.{List, Memᴰ}
use Prim.Native.Nat.{ℕ, ◌+◌, ◌*◌, ◌-◌, ◌≤◌, ◌<◌}
use native.Mathlib.Decide.{dec_lt, dec_le}
use native.Mathlib.Omega.{arith}
use lib.ListN.{length, get_or}
use Rattle.spanning.proofs.OneMore.{tree_bottleneck}
use Rattle.plane.specs.Point.{Point, lower, gap, dist}
use Rattle.plane.specs.Coordinate.{coordinate}
use Rattle.plane.specs.Stored.{point_at}
use Rattle.arrays.proofs.Order.{nat_order}
use Rattle.plane.proofs.Metric.{gap_sym, gap_triangle}
use Rattle.plane.proofs.Stored.{gap-rising, gap_falling}
use Rattle.arrays.specs.Set.{put}
use Rattle.model.specs.Tree.{tree_length}
use Rattle.keys.specs.Held.{held}
use Rattle.keys.specs.Keys.{weight, key_graph, all_keys, tree_keys}
use Rattle.arrays.specs.Tab.{tab}
use Rattle.keys.proofs.All.{all_keys-sorted}
use Rattle.tree.proofs.Size.{near_words}
use Rattle.regions.specs.Rays.{places, ray, ray_length, ray_point, far, far_ray}
use Rattle.regions.specs.Nearest.{Side, east, west, north, south, ray_at, along_of, ray_to, Region, AtRows, ColumnGiven}
use Rattle.score.specs.Gain.{table_at, gain, by_side, rays_at}
use Rattle.score.specs.Prepared.{Prepared, spared_by}
use Rattle.score.proofs.Bounds.{Plain}
use Rattle.score.proofs.Gains.{light}
use Rattle.score.proofs.Nearby.{Nearby, all_plain}
use Rattle.score.proofs.Crossing.{length_with_lem}

-- The distance of two stored coordinates.
abbrev gap_of : ℕ → ℕ → ℕ
gap_of u v = gap (coordinate u) (coordinate v)

gap_is : (u v : ℕ) → gap_of u v ≡ (u - v) + (v - u)
gap_is u v = dite (dec_le u v) (λ l. omega (arith, gap-rising u v l)) (λ l. omega (arith, gap_falling u v (omega arith)))

gap-small : (u v : ℕ) → u < 65536 → v < 65536 → gap_of u v ≤ 65535
gap-small u v hu hv = omega (arith, gap_is u v)

-- Of two coordinates on one side of z, the one between z and the other.
same_side : (z u v : ℕ) → ((z ≤ u) × (z ≤ v)) ⊎ ((u ≤ z) × (v ≤ z)) → (gap_of u v + gap_of u z ≡ gap_of v z) ⊎ (gap_of u v + gap_of v z ≡ gap_of u z)
same_side z u v s =
    let a = gap_is u v in
    let b = gap_is u z in
    let c = gap_is v z in
    dite (dec_le u v) (λ l. ⊎_elim (λ h. inl (omega arith)) (λ h. inr (omega arith)) s) (λ l. ⊎_elim (λ h. inr (omega arith)) (λ h. inl (omega arith)) s)

-- Two points on the flat side of (x, y), the nearer first; and on a side, by their stored coordinates.
flat_near : (x y u v u' v' : ℕ) → gap_of u x + gap_of v y ≤ gap_of u' x + gap_of v' y → ((x ≤ u) × (x ≤ u')) ⊎ ((u ≤ x) × (u' ≤ x))
    → gap_of v y ≤ gap_of u x → gap_of v' y ≤ gap_of u' x → gap_of u u' + gap_of v v' ≤ gap_of u' x + gap_of v' y
flat_near x y u v u' v' closer s p q =
    let t = gap_triangle (coordinate v) (coordinate y) (coordinate v') in
    let b = gap_sym (coordinate y) (coordinate v') in
    ⊎_elim (λ e. omega arith) (λ e. omega arith) (same_side x u u' s)

abbrev OnSide : Side → ℕ → ℕ → ℕ → ℕ → Type 0
OnSide east x y u v = (x ≤ u) × (gap_of v y ≤ gap_of u x)
OnSide west x y u v = (u ≤ x) × (gap_of v y ≤ gap_of u x)
OnSide north x y u v = (y ≤ v) × (gap_of u x ≤ gap_of v y)
OnSide south x y u v = (v ≤ y) × (gap_of u x ≤ gap_of v y)

side_near : (t : Side) (x y u v u' v' : ℕ) → gap_of u x + gap_of v y ≤ gap_of u' x + gap_of v' y → OnSide t x y u v → OnSide t x y u' v'
    → gap_of u u' + gap_of v v' ≤ gap_of u' x + gap_of v' y
side_near east x y u v u' v' h a b = flat_near x y u v u' v' h (inl (a.0, b.0)) a.1 b.1
side_near west x y u v u' v' h a b = flat_near x y u v u' v' h (inr (a.0, b.0)) a.1 b.1
side_near north x y u v u' v' h a b = omega (arith, flat_near y x v u v' u' (omega arith) (inl (a.0, b.0)) a.1 b.1)
side_near south x y u v u' v' h a b = omega (arith, flat_near y x v u v' u' (omega arith) (inr (a.0, b.0)) a.1 b.1)

-- The members of a list by sides.
in_sides : (K : Side → ℕ) {k : ℕ} → Memᴰ k (by_side K) → (t : Side) × (k ≡ K t)
in_sides K (head e) = (south, e)
in_sides K (tail (head e)) = (north, e)
in_sides K (tail (tail (head e))) = (west, e)
in_sides K (tail (tail (tail (head e)))) = (east, e)
in_sides K (tail (tail (tail (tail m)))) = absurd (not-nil m)

side_in : (K : Side → ℕ) (t : Side) → Memᴰ (K t) (by_side K)
side_in K south = head refl
side_in K north = tail (head refl)
side_in K west = tail (tail (head refl))
side_in K east = tail (tail (tail (head refl)))

module _ {xs ys table gaps ranks rows : List ℕ} (p : Prepared xs ys table gaps ranks rows) where
  abbrev n : ℕ
  n = length xs

  abbrev count : ℕ
  count = length rows

  -- What the search of a column asks.
  pub column-given : ColumnGiven xs gaps ranks n count
  column-given =
      record {
        in_xs = omega arith;
        in_ranks = p.in_ranks;
        few = omega arith;
        size = p.size_gaps;
        rows = p.given.few;
        ranked = λ j h. (p.located.ranked j h).within;
        near = λ j h r l. omega (arith, p.located.distances j h r l, gap-small (get_or ys j 0) (get_or rows r 0) (p.stored_ys j) (p.stored_rows r));
      }

  plain : Plain (all_keys (held xs ys) n) n (table_at table)
  unfolding tree_keys
  plain =
      all_plain (held xs ys) n p.few p.some
      (λ i j. let d = near_words _ _ _ _ (p.stored_xs i) (p.stored_ys i) (p.stored_xs j) (p.stored_ys j) in omega arith)
      (λ u v hu hv x.
      let tree = tree_bottleneck key_graph nat_order weight light (all_keys (held xs ys) n) (all_keys-sorted (held xs ys) n) x in
      let b = p.bottlenecks u v hu hv x in
      (λ l. tree.0 (b.0 l), λ d. b.1 (tree.1 d)))

  -- The crossing of the column x with the row r, and the least rays there.
  module _ {x r : ℕ} (below : r < count) (stored : x < 65536) {least : List ℕ} (q : AtRows xs gaps ranks x n count least) where
    at : ℕ → Point
    at = held xs ys

    y : ℕ
    y = get_or rows r 0

    c : Point
    c = point_at x y

    -- The distances of a point to the crossing and to another; its ray to the crossing.
    dist_is : (i : ℕ) → dist (at i) c ≡ gap_of (get_or xs i 0) x + gap_of (get_or ys i 0) y
    unfolding dist at c
    dist_is i = refl

    between_is : (i j : ℕ) → dist (at i) (at j) ≡ gap_of (get_or xs i 0) (get_or xs j 0) + gap_of (get_or ys i 0) (get_or ys j 0)
    unfolding dist at
    between_is i j = refl

    gap_at : (j : ℕ) → j < n → get_or gaps (j * places + r) 0 ≡ gap_of (get_or ys j 0) y * places
    unfolding y
    gap_at j h = p.located.distances j h r below

    ray_is : (j : ℕ) → j < n → ray_to xs gaps x r j ≡ ray (dist (at j) c) j
    ray_is j h = omega (arith, gap_at j h, dist_is j)

    near : (j : ℕ) → dist (at j) c ≤ 131070
    unfolding at y c
    near j = near_words _ _ _ _ (p.stored_xs j) (p.stored_ys j) stored (p.stored_rows r)

    -- The side of a point, by its coordinates; and each point is on one.
    on_side : (t : Side) (j : ℕ) → j < n → Region xs gaps ranks x r t j → OnSide t x y (get_or xs j 0) (get_or ys j 0)
    unfolding y
    on_side east j h m = (m.0, omega (arith, gap_at j h))
    on_side west j h m = (omega arith, omega (arith, gap_at j h))
    on_side north j h m = (omega (arith, (p.located.ranked j h).below r m.0), omega (arith, gap_at j h))
    on_side south j h m = ((p.located.ranked j h).above r m.0 below, omega (arith, gap_at j h))

    side_of : (j : ℕ) → (t : Side) × Region xs gaps ranks x r t j
    side_of j =
        dite (dec_le (get_or gaps (j * places + r) 0) (along_of xs x j))
        (λ f. dite (dec_lt (get_or xs j 0) x) (λ l. (west, (l, f))) (λ l. (east, (omega arith, f))))
        (λ f. dite (dec_lt r (get_or ranks j 0)) (λ l. (north, (l, omega arith))) (λ l. (south, (omega arith, omega arith))))

    -- The nearest of a side covers every point there.
    covered : (t : Side) (j : ℕ) → j < n → Region xs gaps ranks x r t j
        → (ray_length (ray_at least t r) ≤ dist (at j) c) × (dist (at (ray_point (ray_at least t r))) (at j) ≤ dist (at j) c)
    covered t j h m = go (ray_at least t r) (q.near t r below).is ((q.near t r below).least j h m)
      where
        go : (k : ℕ) → (k ≡ far_ray) ⊎ ((i : ℕ) × (i < n) × Region xs gaps ranks x r t i × (k ≡ ray_to xs gaps x r i)) → k ≤ ray_to xs gaps x r j
            → (ray_length k ≤ dist (at j) c) × (dist (at (ray_point k)) (at j) ≤ dist (at j) c)
        go k (inl e) l = absurd (omega (arith, ray_is j h, near j))
        go k (inr (i, hi, mi, e)) l =
            let a = ray_is i hi in
            let b = ray_is j h in
            let closer : dist (at i) c ≤ dist (at j) c = omega arith in
            let number : ray_point k ≡ i = omega arith in
            let di = dist_is i in
            let dj = dist_is j in
            let dij = between_is i j in
            let s = side_near t x y (get_or xs i 0) (get_or ys i 0) (get_or xs j 0) (get_or ys j 0) (omega arith) (on_side t i hi mi) (on_side t j h m) in
            (omega arith, rw number (omega arith))

    nearby : Nearby at c n (rays_at least r)
    nearby =
        record {
          edges = λ k m.
              let s = in_sides (λ t. ray_at least t r) m in
              ⊎_elim (λ e. inl (s.1 ∙ e)) (λ g. inr (g.0, g.1, s.1 ∙ g.3 ∙ ray_is g.0 g.1)) (q.near s.0 r below).is;
          covers = λ j h.
              let s = side_of j in
              let v = covered s.0 j h s.1 in
              (ray_at least s.0 r, side_in (λ t. ray_at least t r) s.0, v.0, v.1);
        }

    -- The tree with the crossing is shorter by the gain of its rays than with an edge of length `far`.
    pub gain_is : tree_length (put lower (point_at x (get_or rows r 0)) (tab (held xs ys) n)) + gain (table_at table) (rays_at least r)
        ≡ far + tree_length (tab (held xs ys) n)
    unfolding at y c
    gain_is = length_with_lem at plain p.rises c (λ i. omega (arith, near i)) (rays_at least r) nearby

    pub spared_is : gain (table_at table) (rays_at least r) ≡ spared_by (tab (held xs ys) n) (point_at x (get_or rows r 0))
    spared_is = omega (arith, gain_is)
