-- Any list of edges between the points, in any direction and with repeats, that connects them is at least as long as the tree.
-- By turning each edge to rise, and dropping those that lead from a point to itself.
use mathlib.Core.Path.{◌≡◌, refl, sym, subst}
use mathlib.Core.Logic.{◌⊎◌, inl, inr, ⊎_elim}
use mathlib.Core.List.Memᴰ.{cases_cons as cases}
use mathlib.Core.List.Memᴰ.{head}
use mathlib.Core.List.Memᴰ.{not-nil}
use mathlib.Core.List.Memᴰ.{tail}
use mathlib.Core.List.{List, [], ◌∷◌, Memᴰ}
use Prim.Native.Nat.{◌≤◌}
use native.Mathlib.Nat.{le_trans}
use native.Mathlib.Omega.{arith}
use Rattle.spanning.specs.Graph.{Conn, stop, In, Tree, total}
use Rattle.arrays.specs.Order.{Sorted}
use Rattle.spanning.proofs.Conn.{conn_edge, conn_sym, conn_mono, conn_bind}
use Rattle.spanning.proofs.Cover.{cover}
use Rattle.plane.specs.Point.{Point, Lower}
use Rattle.plane.specs.Edge.{Edge, edge_length, planar}
use Rattle.plane.proofs.Order.{lower-order, before-order, before-length}
use Rattle.plane.proofs.Metric.{dist_sym}
use Rattle.plane.proofs.Axis.{Connects}
use Rattle.model.specs.Tree.{edges, mst, length_of, tree_length}
use Rattle.model.proofs.Tree.{edges_in, edges-sorted}

-- Every end of an edge of C is a point of ps.
abbrev pub Ends : List Point → List Edge → Type 0
Ends ps C = (e : Edge) → Memᴰ e C → Memᴰ e.lo ps × Memᴰ e.hi ps

-- C with the ends of each edge in order: no longer, and it connects what C connects.
record Directed (ps : List Point) (C : List Edge) : Type 0 where
  list : List Edge
  inside : (e : Edge) → Memᴰ e list → Memᴰ e (edges ps)
  light : length_of list ≤ length_of C
  links : (e : Edge) → Memᴰ e C → Conn planar (In list) e.hi e.lo

module _ (ps : List Point) (rising : Sorted Lower ps) where
  directed : (C : List Edge) → Ends ps C → Directed ps C
  unfolding total planar
  directed [] h = record { list = []; inside = λ e i. absurd (not-nil i); light = omega arith; links = λ e i. absurd (not-nil i) }
  directed (e ∷ C) h = by (directed C (λ f i. h f (tail i))) (lower-order.compare e.lo e.hi)
    where
      in_ends_lem : Memᴰ e.lo ps × Memᴰ e.hi ps
      in_ends_lem = h e (head refl)

      -- with the edge f, which joins the same ends and is no longer
      with : (r : Directed ps C) (f : Edge) → Memᴰ f (edges ps) → edge_length f ≤ edge_length e
          → ((l : List Edge) → Memᴰ f l → Conn planar (In l) e.hi e.lo) → Directed ps (e ∷ C)
      with r f m short joins =
          record {
            list = f ∷ r.list;
            inside = λ g i. ⊎_elim (λ q. subst (λ (z : Edge). Memᴰ z (edges ps)) (sym q) m) (r.inside g) (cases i);
            light = omega (arith, r.light);
            links = λ g i. ⊎_elim (λ q. subst (λ (z : Edge). Conn planar (In (f ∷ r.list)) z.hi z.lo) (sym q) (joins (f ∷ r.list) (head refl)))
                (λ j. conn_mono (λ k m. tail m) (r.links g j)) (cases i);
          }

      by : Directed ps C → Lower e.lo e.hi ⊎ ((e.lo ≡ e.hi) ⊎ Lower e.hi e.lo) → Directed ps (e ∷ C)
      by r (inl up) = with r e ((edges_in ps rising e).1 (in_ends_lem.0, in_ends_lem.1, up)) (omega arith) (λ l m. conn_edge e m)
      by r (inr (inl same)) =
          record {
            list = r.list;
            inside = r.inside;
            light = omega (arith, r.light);
            links = λ g i. ⊎_elim (λ q. subst (λ (z : Edge). Conn planar (In r.list) z.hi z.lo) (sym q) (stop same)) (r.links g) (cases i);
          }
      by r (inr (inr down)) =
          with r (record { lo = e.hi; hi = e.lo }) ((edges_in ps rising _).1 (in_ends_lem.1, in_ends_lem.0, down))
          (omega (arith, dist_sym e.hi e.lo)) (λ l m. conn_sym (conn_edge (record { lo = e.hi; hi = e.lo }) m))

  pub mst_cover : (C : List Edge) → Ends ps C → Connects ps C → tree_length ps ≤ length_of C
  unfolding mst tree_length planar
  mst_cover C h c =
      le_trans
      (cover planar before-order edge_length before-length (edges ps) t.list (edges-sorted ps rising) t.inside
      (λ e i. let b = (edges_in ps rising e).0 i in conn_bind t.links (c e.lo e.hi b.0 b.1)))
      t.light
    where
      t : Directed ps C
      t = directed C h

  -- Every tree over the points, by the plain definition, is at least as long as the tree.
  pub mst-least : (t : List Edge) → Tree planar ps t → tree_length ps ≤ length_of t
  unfolding planar
  mst-least t r = mst_cover t r.ends r.spans
