-- A vertex q is replaced by c on every edge of a list: what was connected is connected along, and the length changes as the
-- sum of the distances to q's neighbours does.
use mathlib.Core.Path.{◌≡◌, refl, sym, ap, ◌∙◌, subst⁻¹}
use mathlib.Core.Logic.{◌⊎◌, inl, inr, ⊎_elim, dite, dif_neg}
use mathlib.Core.List.Memᴰ.{cases_cons as cases}
use mathlib.Core.List.Memᴰ.{head}
use mathlib.Core.List.Memᴰ.{tail}
use mathlib.Core.List.{List, [], ◌∷◌, map, Memᴰ}
use mathlib.Core.List.Memᴰ.{not-nil}
use Prim.Native.Nat.{ℕ, suc, ◌+◌, ◌≤◌}
use native.Mathlib.Omega.{arith}
use lib.ListN.{length}
use Rattle.spanning.specs.Graph.{Conn, In, total, degree}
use Rattle.spanning.proofs.Conn.{conn_map, conn_edge}
use Rattle.spanning.proofs.Degree.{degree_touch, degree_away, degree_pos}
use Rattle.plane.specs.Point.{Point, dist, point_dec}
use Rattle.plane.specs.Edge.{Edge, edge_length, planar}
use Rattle.plane.proofs.Metric.{dist_sym, dist_self}
use Rattle.model.specs.Tree.{length_of, edges_at}
use Rattle.model.proofs.Cover.{Ends}

-- c for q, and every other point as it is.
pub swap : Point → Point → Point → Point
swap q c u = dite (point_dec u q) (λ _. c) (λ _. u)

pub swap_same : (q c u : Point) → u ≡ q → swap q c u ≡ c
unfolding swap
swap_same q c u e = go (point_dec u q)
  where
    go : (d : Dec (u ≡ q)) → dite d (λ _. c) (λ _. u) ≡ c
    go (yes h) = refl
    go (no n) = absurd (n e)

pub swap_other : (q c u : Point) → ¬ (u ≡ q) → swap q c u ≡ u
unfolding swap
swap_other q c u n = dif_neg (point_dec u q) n (λ _. c) (λ _. u)

swap_edge : Point → Point → Edge → Edge
swap_edge q c e = record { lo = swap q c e.lo; hi = swap q c e.hi }

pub replaced : Point → Point → List Edge → List Edge
replaced q c t = map (swap_edge q c) t

-- The other ends of the edges at q.
unfoldable pub star : Point → List Edge → List Point
star q [] = []
star q (e ∷ t) = dite (point_dec q e.lo) (λ _. e.hi ∷ star q t) (λ _. dite (point_dec q e.hi) (λ _. e.lo ∷ star q t) (λ _. star q t))

-- The sum of the distances from p.
abbrev pub sum_dist : Point → List Point → ℕ
sum_dist p l = total (λ (n : Point). dist p n) l

-- What an edge is to q: it starts there, ends there, or is elsewhere.
data Incidence (q : Point) (e : Edge) (t : List Edge) : List Point → Type 0 where
  starts : q ≡ e.lo → Incidence q e t (e.hi ∷ star q t)
  ends : ¬ (q ≡ e.lo) → q ≡ e.hi → Incidence q e t (e.lo ∷ star q t)
  away : ¬ (q ≡ e.lo) → ¬ (q ≡ e.hi) → Incidence q e t (star q t)

incidence : (q : Point) (e : Edge) (t : List Edge) → Incidence q e t (star q (e ∷ t))
unfolding star
incidence q e t = go (point_dec q e.lo) (point_dec q e.hi)
  where
    go : (d : Dec (q ≡ e.lo)) (f : Dec (q ≡ e.hi))
        → Incidence q e t (dite d (λ _. e.hi ∷ star q t) (λ _. dite f (λ _. e.lo ∷ star q t) (λ _. star q t)))
    go (yes h) f = starts h
    go (no n) (yes h) = ends n h
    go (no n) (no m) = away n m

swap_in : (q c : Point) (t : List Edge) (e : Edge) → Memᴰ e t → Memᴰ (swap_edge q c e) (replaced q c t)
unfolding replaced
swap_in q c [] e i = absurd (not-nil i)
swap_in q c (f ∷ t) e i = ⊎_elim (λ m. head (ap (swap_edge q c) m)) (λ j. tail (swap_in q c t e j)) (cases i)

in_swap : (q c : Point) (t : List Edge) (f : Edge) → Memᴰ f (replaced q c t) → (e : Edge) × Memᴰ e t × (f ≡ swap_edge q c e)
unfolding replaced
in_swap q c [] f i = absurd (not-nil i)
in_swap q c (e ∷ t) f i =
    ⊎_elim (λ m. (e, head refl, m)) (λ j. let r = in_swap q c t f j in (r.0, tail r.1, r.2)) (cases i)

module _ (q c : Point) where
  -- Connectivity goes along.
  pub replaced_conn : (t : List Edge) {u v : Point} → Conn planar (In t) v u → Conn planar (In (replaced q c t)) (swap q c v) (swap q c u)
  unfolding planar swap_edge
  replaced_conn t w = conn_map (swap q c) (λ e i. conn_edge (swap_edge q c e) (swap_in q c t e i)) w

  -- Ends go along.
  pub replaced_ends : (ps qs : List Point) (t : List Edge) → ((u : Point) → Memᴰ u ps → Memᴰ (swap q c u) qs) → Ends ps t → Ends qs (replaced q c t)
  unfolding swap_edge
  replaced_ends ps qs t h d f i =
      let r = in_swap q c t f i in
      let b = d r.0 r.1 in (
        subst⁻¹ (λ (z : Point). Memᴰ z qs) (λ i. (r.2 i).lo) (h r.0.lo b.0),
        subst⁻¹ (λ (z : Point). Memᴰ z qs) (λ i. (r.2 i).hi) (h r.0.hi b.1),
      )

  -- The length, one edge more at a time.
  length-step : (e : Edge) (t : List Edge) (l : List Point) → Incidence q e t l
      → length_of (replaced q c t) + sum_dist q (star q t) ≤ length_of t + sum_dist c (star q t)
      → edge_length (swap_edge q c e) + length_of (replaced q c t) + sum_dist q l ≤ edge_length e + length_of t + sum_dist c l
  unfolding swap_edge total
  length-step e t l (starts h) k = omega (arith, moved, kept)
    where
      moved : dist (swap q c e.lo) (swap q c e.hi) ≤ dist c e.hi
      moved =
          subst⁻¹ (λ (z : Point). dist z (swap q c e.hi) ≤ dist c e.hi) (swap_same q c e.lo (sym h)) (by (point_dec e.hi q))
        where
          by : Dec (e.hi ≡ q) → dist c (swap q c e.hi) ≤ dist c e.hi
          by (yes m) = subst⁻¹ (λ (z : Point). dist c z ≤ dist c e.hi) (swap_same q c e.hi m) (omega (arith, dist_self c))
          by (no n) = subst⁻¹ (λ (z : Point). dist c z ≤ dist c e.hi) (swap_other q c e.hi n) (omega arith)

      kept : dist q e.hi ≡ dist e.lo e.hi
      kept = ap (λ (z : Point). dist z e.hi) h
  length-step e t l (ends n h) k = omega (arith, moved, kept)
    where
      moved : dist (swap q c e.lo) (swap q c e.hi) ≡ dist c e.lo
      moved =
          (λ i. dist (swap_other q c e.lo (λ m. n (sym m)) i) (swap_same q c e.hi (sym h) i)) ∙ dist_sym e.lo c

      kept : dist q e.lo ≡ dist e.lo e.hi
      kept = dist_sym q e.lo ∙ ap (λ (z : Point). dist e.lo z) h
  length-step e t l (away n m) k = omega (arith, moved)
    where
      moved : dist (swap q c e.lo) (swap q c e.hi) ≡ dist e.lo e.hi
      moved = λ i. dist (swap_other q c e.lo (λ h. n (sym h)) i) (swap_other q c e.hi (λ h. m (sym h)) i)

  pub replaced_length : (t : List Edge) → length_of (replaced q c t) + sum_dist q (star q t) ≤ length_of t + sum_dist c (star q t)
  unfolding replaced total star
  replaced_length [] = omega arith
  replaced_length (e ∷ t) = length-step e t (star q (e ∷ t)) (incidence q e t) (replaced_length t)

-- The number of edges at q is that of its neighbours.
pub star-count : (q : Point) (t : List Edge) → length (star q t) ≡ edges_at q t
unfolding star degree planar
star-count q [] = refl
star-count q (e ∷ t) = go (star-count q t) (star q (e ∷ t)) (incidence q e t)
  where
    go : length (star q t) ≡ degree planar q t → (l : List Point) → Incidence q e t l → length l ≡ degree planar q (e ∷ t)
    go r l (starts h) = ap suc r ∙ sym (degree_touch planar q e t (inl h))
    go r l (ends n h) = ap suc r ∙ sym (degree_touch planar q e t (inr h))
    go r l (away n m) = r ∙ sym (degree_away planar q e t (λ s. ⊎_elim n m s))

-- A neighbour is the other end of an edge, and the other way round.
abbrev pub Neighbour : Point → Point → Edge → Type 0
Neighbour q n e = ((q ≡ e.lo) × (n ≡ e.hi)) ⊎ ((q ≡ e.hi) × (n ≡ e.lo))

pub star-edge : (q n : Point) (t : List Edge) → Memᴰ n (star q t) → (e : Edge) × Memᴰ e t × Neighbour q n e
unfolding star
star-edge q n [] i = absurd (not-nil i)
star-edge q n (e ∷ t) i = go (λ j. let r = star-edge q n t j in (r.0, tail r.1, r.2)) (star q (e ∷ t)) (incidence q e t) i
  where
    Answer : Type 0
    Answer = (f : Edge) × Memᴰ f (e ∷ t) × Neighbour q n f

    go : (Memᴰ n (star q t) → Answer) → (l : List Point) → Incidence q e t l → Memᴰ n l → Answer
    go later l (starts h) j = ⊎_elim (λ m. (e, head refl, inl (h, m))) later (cases j)
    go later l (ends k h) j = ⊎_elim (λ m. (e, head refl, inr (h, m))) later (cases j)
    go later l (away k m) j = later j

pub edge-star : (q n : Point) (t : List Edge) (e : Edge) → Memᴰ e t → Neighbour q n e → Memᴰ n (star q t)
unfolding star
edge-star q n [] e i h = absurd (not-nil i)
edge-star q n (f ∷ t) e i h = go (star q (f ∷ t)) (incidence q f t) (⊎_elim (λ p. inl p) (λ j. inr (edge-star q n t e j h)) (cases i))
  where
    go : (l : List Point) → Incidence q f t l → (e ≡ f) ⊎ Memᴰ n (star q t) → Memᴰ n l
    go l (starts k) (inl p) =
        head (⊎_elim (λ c. c.1 ∙ ap (λ (z : Edge). z.hi) p) (λ c. c.1 ∙ ap (λ (z : Edge). z.lo) p ∙ sym k ∙ c.0 ∙ ap (λ (z : Edge). z.hi) p) h)
    go l (ends m k) (inl p) = head (⊎_elim (λ c. absurd (m (c.0 ∙ ap (λ (z : Edge). z.lo) p))) (λ c. c.1 ∙ ap (λ (z : Edge). z.lo) p) h)
    go l (away m k) (inl p) =
        absurd (⊎_elim (λ c. m (c.0 ∙ ap (λ (z : Edge). z.lo) p)) (λ c. k (c.0 ∙ ap (λ (z : Edge). z.hi) p)) h)
    go l (starts k) (inr j) = tail j
    go l (ends m k) (inr j) = tail j
    go l (away m k) (inr j) = j

-- All edges are at least as long as those at q.
pub star-length : (q : Point) (t : List Edge) → sum_dist q (star q t) ≤ length_of t
unfolding star total
star-length q [] = omega arith
star-length q (e ∷ t) = go (star q (e ∷ t)) (incidence q e t) (star-length q t)
  where
    go : (l : List Point) → Incidence q e t l → sum_dist q (star q t) ≤ length_of t → sum_dist q l ≤ edge_length e + length_of t
    go l (starts h) r = omega (arith, ap (λ (z : Point). dist z e.hi) h)
    go l (ends n h) r = omega (arith, dist_sym q e.lo, ap (λ (z : Point). dist e.lo z) h)
    go l (away n m) r = omega arith

-- With no neighbour no edge is at q.
pub star_none : (q : Point) (t : List Edge) → star q t ≡ [] → (e : Edge) → Memᴰ e t → ¬ (q ≡ e.lo) × ¬ (q ≡ e.hi)
unfolding planar
star_none q t z e i =
    (λ h. some_edge (degree_pos planar q t e i (inl h)), λ h. some_edge (degree_pos planar q t e i (inr h)))
  where
    some_edge : 1 ≤ edges_at q t → ⊥
    some_edge h = omega (arith, star-count q t, ap length z)
