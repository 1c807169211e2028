-- Edges that connect two vertices are together at least as long as the two are apart, along any axis. So no tree over points is shorter than the
-- half perimeter of the box around them, whatever further points it has. By induction on the edges: the part of the axis between the ends of the
-- first edge is folded out, so that its ends fall together, no other edge grows, and the two vertices come nearer by no more than its length.
use mathlib.Core.Path.{◌≡◌, refl, sym, ◌∙◌, ap, subst, subst⁻¹}
use mathlib.Core.Logic.{⊎_elim, dite}
use mathlib.Core.List.Memᴰ.{cases_cons as cases}
use mathlib.Core.List.{List, [], ◌∷◌, map, Memᴰ}
use mathlib.Core.List.Memᴰ
use mathlib.Core.List.Memᴰ.{not-nil}
use Prim.Native.Nat.{ℕ, ◌+◌, ◌≤◌}
use native.Mathlib.Omega.{arith}
use lib.IntN.{ℤ, pos, ◌-ℤ◌, ℤ_discrete}
use Rattle.spanning.specs.Graph.{Graph, Conn, stop, In, total}
use Rattle.spanning.proofs.Conn.{conn_none, conn_edge, conn_map}
use Rattle.spanning.proofs.Totals.{total_smaller_terms, total-sum}
use Rattle.plane.specs.Point.{Point, gap, dist}
use Rattle.plane.specs.Edge.{Edge, edge_length, planar}
use Rattle.plane.specs.Box.{greatest, spread, half_perimeter}
use Rattle.plane.proofs.Whole.{plus, minus, AtMost, at_most?, whole_ext, difference_value, gap_ge, gap-le}
use Rattle.plane.proofs.Metric.{gap_sym, gap_self, gap_up}
use Rattle.plane.proofs.Box.{reaches_ends}

-- The axis with the part from a to b folded into a: below it nothing moves, and what is above it comes down by its length.
module _ (a b : ℤ) (rises : AtMost a b) where
  fold : ℤ → ℤ
  fold z = dite (at_most? z a) (λ _. z) (λ _. dite (at_most? z b) (λ _. a) (λ _. z -ℤ pos (gap a b)))

  data Folded (z : ℤ) : ℤ → Type 0 where
    below : AtMost z a → Folded z z
    inside : AtMost a z → AtMost z b → Folded z a
    above : AtMost b z → (y : ℤ) → plus y + (minus z + gap a b) ≡ plus z + minus y → Folded z y

  folded : (z : ℤ) → Folded z (fold z)
  unfolding fold
  folded z = go (at_most? z a) (at_most? z b)
    where
      go : (d : Dec (AtMost z a)) (e : Dec (AtMost z b)) → Folded z (dite d (λ _. z) (λ _. dite e (λ _. a) (λ _. z -ℤ pos (gap a b))))
      go (yes h) e = below h
      go (no n) (yes h) = inside (omega arith) h
      go (no n) (no m) = above (omega arith) (z -ℤ pos (gap a b)) (omega (arith, difference_value z (pos (gap a b))))

  -- Nothing moves up, and nothing down by more than the part.
  comes_down : {z y : ℤ} → Folded z y → AtMost y z × (plus z + minus y ≤ plus y + minus z + gap a b)
  comes_down (below h) = (omega arith, omega arith)
  comes_down (inside h k) = (omega arith, omega (arith, gap_up a b rises))
  comes_down (above h y e) = (omega arith, omega arith)

  -- No two numbers get farther apart, and none nearer by more than the part.
  one_way : {y z u v : ℤ} → Folded y u → Folded z v → plus u + minus v ≤ plus v + minus u + gap y z
  one_way {y} {z} (below h) (below k) = omega (arith, gap_ge y z)
  one_way {y} {z} (below h) (inside k l) = omega (arith, gap_ge y z)
  one_way {y} {z} (below h) (above k v e) = omega (arith, gap_ge y z, gap_up a b rises)
  one_way {y} {z} (inside h l) (below k) = omega (arith, gap_ge y z)
  one_way {y} {z} (inside h l) (inside k m) = omega (arith, gap_ge y z)
  one_way {y} {z} (inside h l) (above k v e) = omega (arith, gap_ge y z, gap_up a b rises)
  one_way {y} {z} (above h u d) (below k) = omega (arith, gap_ge y z, gap_up a b rises)
  one_way {y} {z} (above h u d) (inside k l) = omega (arith, gap_ge y z, gap_up a b rises)
  one_way {y} {z} (above h u d) (above k v e) = omega (arith, gap_ge y z)

  no_apart : (y z : ℤ) → gap (fold y) (fold z) ≤ gap y z
  no_apart y z =
      gap-le (fold y) (fold z) (gap y z) (one_way (folded y) (folded z)) (omega (arith, one_way (folded z) (folded y), gap_sym y z))

  less_apart : (y z : ℤ) → gap y z ≤ gap (fold y) (fold z) + gap a b
  less_apart y z =
      let f = comes_down (folded y) in
      let g = comes_down (folded z) in
      gap-le y z (gap (fold y) (fold z) + gap a b) (omega (arith, gap_ge (fold y) (fold z), f, g)) (omega (arith, gap_ge (fold y) (fold z), f, g))

  -- The ends of the part fall together.
  low_end : {u : ℤ} → Folded a u → u ≡ a
  low_end (below h) = refl
  low_end (inside h k) = refl
  low_end (above h y e) = whole_ext y a (omega (arith, gap_up a b rises))

  high_end : {u : ℤ} → Folded b u → u ≡ a
  high_end (below h) = whole_ext b a (omega arith)
  high_end (inside h k) = refl
  high_end (above h y e) = whole_ext y a (omega (arith, gap_up a b rises))

  ends_meet : fold a ≡ fold b
  ends_meet = low_end (folded a) ∙ sym (high_end (folded b))

module _ {P E : Type 0} (G : Graph P E) where
  -- The edges along an axis, on which each vertex v stands at f v, and how long an edge is there.
  abbrev along : (P → ℤ) → Graph ℤ E
  along f = record { lo = λ e. f (G.lo e); hi = λ e. f (G.hi e); dec = ℤ_discrete }

  abbrev pub extent : (P → ℤ) → E → ℕ
  extent f e = gap (f (G.lo e)) (f (G.hi e))

  -- One edge e more, whose ends stand at a and b: with that part folded out, the rest connects what stood at y and z.
  module _ (e : E) (F : List E) (f : P → ℤ) {y z : ℤ} (c : Conn (along f) (In (e ∷ F)) z y)
      (rest : (g : P → ℤ) (u v : ℤ) → Conn (along g) (In F) v u → gap u v ≤ total (extent g) F) where
    folded_out : (a b : ℤ) (h : AtMost a b) → fold a b h (f (G.lo e)) ≡ fold a b h (f (G.hi e)) → gap y z ≤ gap a b + total (extent f) F
    folded_out a b h meet =
        let g : P → ℤ = λ p. fold a b h (f p) in
        let d : Conn (along g) (In F) (fold a b h z) (fold a b h y) =
        conn_map (fold a b h) (λ k m. ⊎_elim
        (λ q. stop (subst⁻¹ (λ (r : E). g (G.lo r) ≡ g (G.hi r)) q meet)) (λ j. conn_edge {G = along g} k j) (cases m)) c in
        omega (
          arith,
          less_apart a b h y z,
          rest g (fold a b h y) (fold a b h z) d,
          total_smaller_terms (extent g) (extent f) F (λ k m. no_apart a b h (f (G.lo k)) (f (G.hi k))),
        )

    one_edge : Dec (AtMost (f (G.lo e)) (f (G.hi e))) → gap y z ≤ extent f e + total (extent f) F
    one_edge (yes h) = folded_out (f (G.lo e)) (f (G.hi e)) h (ends_meet (f (G.lo e)) (f (G.hi e)) h)
    one_edge (no n) =
        let h : AtMost (f (G.hi e)) (f (G.lo e)) = omega arith in
        omega (arith, folded_out (f (G.hi e)) (f (G.lo e)) h (sym (ends_meet (f (G.hi e)) (f (G.lo e)) h)), gap_sym (f (G.hi e)) (f (G.lo e)))

  along_length : (F : List E) (f : P → ℤ) (y z : ℤ) → Conn (along f) (In F) z y → gap y z ≤ total (extent f) F
  unfolding total
  along_length [] f y z c = omega (arith, ap (λ w. gap w z) (conn_none (λ e m. not-nil m) c), gap_self z)
  along_length (e ∷ F) f y z c = one_edge e F f c (λ g u v d. along_length F g u v d) (at_most? (f (G.lo e)) (f (G.hi e)))

  -- Edges that connect two vertices are together at least as long as the two are apart, along any axis.
  pub connected_length : (f : P → ℤ) (F : List E) {u v : P} → Conn G (In F) v u → gap (f u) (f v) ≤ total (extent f) F
  connected_length f F {u} {v} c = along_length F f (f u) (f v) (conn_map f (λ e m. conn_edge {G = along f} e m) c)

-- The length of edges is their length along x and along y.
two_axes : (C : List Edge)
    → total edge_length C ≡ total (extent planar (λ (p : Point). p.x)) C + total (extent planar (λ (p : Point). p.y)) C
unfolding planar dist
two_axes C = total-sum (extent planar (λ (p : Point). p.x)) (extent planar (λ (p : Point). p.y)) C

-- C connects any two points of ps.
abbrev pub Connects : List Point → List Edge → Type 0
Connects ps C = (u v : Point) → Memᴰ u ps → Memᴰ v ps → Conn planar (In C) v u

-- Edges that connect points are at least as long, along any axis, as the points spread on it.
connected_spread : (f : Point → ℤ) (ps : List Point) (C : List Edge) → Connects ps C → spread (map f ps) ≤ total (extent planar f) C
unfolding spread
connected_spread f [] C c = omega arith
connected_spread f (p ∷ ps) C c =
    let r = reaches_ends (f p) (map f ps) in
    let low = Memᴰ.of_map f (p ∷ ps) r.lowest in
    let high = Memᴰ.of_map f (p ∷ ps) r.highest in
    subst (λ z. gap z (greatest (f p) (map f ps)) ≤ total (extent planar f) C) low.2
    (subst (λ z. gap (f low.0) z ≤ total (extent planar f) C) high.2
    (connected_length planar f C (c low.0 high.0 low.1 high.1)))

-- Edges that connect points, over whatever further points, are at least as long as the half perimeter of the box around the points.
pub connected_perimeter : (ps : List Point) (C : List Edge) → Connects ps C → half_perimeter ps ≤ total edge_length C
unfolding half_perimeter
connected_perimeter ps C c =
    omega (arith, two_axes C, connected_spread (λ (p : Point). p.x) ps C c, connected_spread (λ (p : Point). p.y) ps C c)
