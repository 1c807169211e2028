-- Kruskal's tree over all edges is THE tree of SPEC 2.2: a tree, least among all trees, first among equals, and the only
-- such. Points may come in any order, with repeats: a tree over a list is one over its members, so over the list put in order.
use mathlib.Core.Path.{◌≡◌, sym, ap, subst}
use mathlib.Core.Logic.{◌⊎◌, ⊎_elim, ◌↔◌}
use mathlib.Core.List.Memᴰ.{cases_cons as cases}
use mathlib.Core.List.Memᴰ.{head}
use mathlib.Core.List.Memᴰ.{tail}
use mathlib.Core.List.{List, [], ◌∷◌, map, Memᴰ}
use mathlib.Core.List.Memᴰ
use mathlib.Core.List.Memᴰ.{not-nil}
use Prim.Native.Nat.{◌-◌}
use native.Mathlib.Omega.{arith}
use lib.ListN.{length}
use Rattle.spanning.specs.Graph.{Conn, stop, In, Tree}
use Rattle.arrays.specs.Order.{Sorted}
use Rattle.spanning.proofs.Conn.{conn_edge, conn_sym}
use Rattle.spanning.proofs.Least.{Spanning, least, least_first, unique_least}
use Rattle.spanning.proofs.Kruskal.{kruskal_in, kruskal-sorted}
use Rattle.arrays.proofs.Members.{sorted_ext, sorted_distinct}
use Rattle.spanning.proofs.Count.{tree-count, tree_none}
use Rattle.spanning.proofs.Tree.{Links, tree_spanning, spanning_tree, kruskal-tree}
use Rattle.plane.specs.Point.{Point, lower, Lower}
use Rattle.plane.specs.Edge.{Edge, Rising, edge_length, before, Before, planar}
use Rattle.plane.proofs.Order.{lower-order, before-order, before-length}
use Rattle.arrays.specs.Set.{put, set_of}
use Rattle.model.specs.Tree.{pairs, edges, mst, RunTree, TheTree}
use Rattle.arrays.proofs.Set.{put_in, put-sorted, set_of_in, set_of-sorted}

-- The edge from p to q.
abbrev pub edge : Point → Point → Edge
edge p q = record { lo = p; hi = q }

-- The edges from p to each point of a list.
from_in : (p : Point) (l : List Point) (e : Edge)
    → Memᴰ e (map (λ (q : Point). edge p q) l) → (e.lo ≡ p) × Memᴰ e.hi l
from_in p l e i =
    let r = Memᴰ.of_map (λ (q : Point). edge p q) l i in
    (ap (λ (f : Edge). f.lo) (sym r.2), subst (λ (f : Edge). Memᴰ f.hi l) r.2 r.1)

-- An edge is among the pairs of a rising list exactly if it rises between two of its points.
Between : List Point → Edge → Type 0
Between ps e = Memᴰ e.lo ps × Memᴰ e.hi ps × Rising e

pairs_in : (ps : List Point) → Sorted Lower ps → (e : Edge) → Memᴰ e (pairs ps) → Between ps e
unfolding pairs Between
pairs_in [] s e i = absurd (not-nil i)
pairs_in (p ∷ l) s e i =
    ⊎_elim
    (λ j. let r = from_in p l e j in
    (head r.0, tail r.1, subst (λ (z : Point). Lower z e.hi) (sym r.0) (s.0 e.hi r.1)))
    (λ j. let r = pairs_in l s.1 e j in (tail r.0, tail r.1, r.2))
    (Memᴰ.append_cases (map (λ (q : Point). edge p q) l) i)

in_pairs : (ps : List Point) → Sorted Lower ps → (e : Edge) → Between ps e → Memᴰ e (pairs ps)
unfolding pairs Between
in_pairs [] s e b = absurd (not-nil b.0)
in_pairs (p ∷ l) s e b =
    ⊎_elim
    (λ m. ⊎_elim
    (λ n. absurd (lower-order.irrefl p (subst (λ (z : Point). Lower z p) m (subst (λ (z : Point). Lower e.lo z) n b.2))))
    (λ j. Memᴰ.append_left (pairs l)
    (subst (λ (z : Point). Memᴰ (edge z e.hi) (map (λ (q : Point). edge p q) l)) (sym m) (Memᴰ.map (λ (q : Point). edge p q) j)))
    (cases b.1))
    (λ i. ⊎_elim
    (λ n. absurd (lower-order.irrefl p (lower-order.trans p e.lo p (s.0 e.lo i) (subst (λ (z : Point). Lower e.lo z) n b.2))))
    (λ j. Memᴰ.append_right (map (λ (q : Point). edge p q) l) (in_pairs l s.1 e (i, j, b.2)))
    (cases b.1))
    (cases b.0)

module _ (ps : List Point) (rising : Sorted Lower ps) where
  pub edges_in : (e : Edge) → Memᴰ e (edges ps) ↔ (Memᴰ e.lo ps × Memᴰ e.hi ps × Rising e)
  unfolding edges Between
  edges_in e = (
    λ i. pairs_in ps rising e ((set_of_in before before-order (pairs ps) e).0 i),
    λ b. (set_of_in before before-order (pairs ps) e).1 (in_pairs ps rising e b),
  )

  pub edges-sorted : Sorted Before (edges ps)
  unfolding edges
  edges-sorted = set_of-sorted before before-order (pairs ps)

  -- All edges connect all points.
  pub edges_link : Links planar ps (edges ps)
  unfolding planar
  edges_link = record { ends = λ e i. (((edges_in e).0 i).0, ((edges_in e).0 i).1); connected = connected }
    where
      connected : (u v : Point) → Memᴰ u ps → Memᴰ v ps → Conn planar (In (edges ps)) v u
      connected u v i j =
          ⊎_elim (λ h. conn_edge (edge u v) ((edges_in (edge u v)).1 (i, j, h)))
          (λ r. ⊎_elim (λ e. stop e) (λ h. conn_sym (conn_edge (edge v u) ((edges_in (edge v u)).1 (j, i, h)))) r)
          (lower-order.compare u v)

  -- A tree of rising edges in the order of runs is a spanning forest of all edges.
  run-tree_spanning : (t : List Edge) → RunTree ps t → Spanning planar Before (edges ps) t
  unfolding planar
  run-tree_spanning t r =
      tree_spanning edges_link r.sorted
      (λ e i. (edges_in e).1 ((r.tree.ends e i).0, (r.tree.ends e i).1, r.rising e i)) r.tree

  pub mst-run-tree : RunTree ps (mst ps)
  unfolding mst
  mst-run-tree =
      record {
        tree = kruskal-tree edges_link;
        rising = λ e i. ((edges_in e).0 (kruskal_in planar [] (edges ps) e i)).2;
        sorted = kruskal-sorted planar Before [] (edges ps) edges-sorted;
      }

  -- Kruskal's tree is THE tree.
  pub mst_the_tree : TheTree ps (mst ps)
  unfolding mst
  mst_the_tree =
      record {
        tree = mst-run-tree;
        least = λ u r. least planar before-order (edges ps) u edges-sorted edge_length before-length (run-tree_spanning u r);
        first = λ u r e. least_first planar before-order (edges ps) u edges-sorted (run-tree_spanning u r);
      }

  -- THE tree is unique.
  pub the_tree_unique : (t : List Edge) → TheTree ps t → t ≡ mst ps
  unfolding mst
  the_tree_unique t r =
      unique_least planar before-order (edges ps) t edges-sorted edge_length before-length (run-tree_spanning t r.tree)
      (λ u s. r.least u (back u s)) (λ u s e. r.first u (back u s) e)
    where
      back : (u : List Edge) → Spanning planar Before (edges ps) u → RunTree ps u
      back u s =
          record { tree = spanning_tree edges_link s; rising = λ e i. ((edges_in e).0 (s.inside e i)).2; sorted = s.sorted }

-- Lists with the same members have the same trees, and THE tree of the one is that of the other.
pub tree-members : (ps qs : List Point) (t : List Edge) → ((p : Point) → Memᴰ p ps ↔ Memᴰ p qs) → Tree planar ps t → Tree planar qs t
tree-members ps qs t h r =
    record {
      ends = λ e i. ((h (planar.lo e)).0 (r.ends e i).0, (h (planar.hi e)).0 (r.ends e i).1);
      spans = λ u v i j. r.spans u v ((h u).1 i) ((h v).1 j);
      forest = r.forest;
    }

-- A tree over the points with one more, which may be one of them.
pub put-tree : (ps : List Point) → Sorted Lower ps → (c : Point) → Tree planar (c ∷ ps) (mst (put lower c ps))
put-tree ps rise c =
    tree-members (put lower c ps) (c ∷ ps) (mst (put lower c ps))
    (λ p. (
      λ i. ⊎_elim (λ e. head e) (λ j. tail j) ((put_in lower lower-order c p ps).0 i),
      λ i. (put_in lower lower-order c p ps).1 (cases i),
    ))
    (mst-run-tree (put lower c ps) (put-sorted lower lower-order c ps rise)).tree

run-tree-members : (ps qs : List Point) (t : List Edge) → ((p : Point) → Memᴰ p ps ↔ Memᴰ p qs) → RunTree ps t → RunTree qs t
run-tree-members ps qs t h r = record { tree = tree-members ps qs t h r.tree; rising = r.rising; sorted = r.sorted }

the_tree-members : (ps qs : List Point) (t : List Edge) → ((p : Point) → Memᴰ p ps ↔ Memᴰ p qs) → TheTree ps t → TheTree qs t
the_tree-members ps qs t h r =
    record {
      tree = run-tree-members ps qs t h r.tree;
      least = λ u k. r.least u (back u k);
      first = λ u k. r.first u (back u k);
    }
  where
    back : (u : List Edge) → RunTree qs u → RunTree ps u
    back u = run-tree-members qs ps u (λ p. ((h p).1, (h p).0))

-- Points that come in any order, repeats too: THE tree of the list is that of its points put in order, and no other.
pub any_the_tree : (l : List Point) → TheTree l (mst (set_of lower l))
any_the_tree l =
    the_tree-members (set_of lower l) l (mst (set_of lower l)) (set_of_in lower lower-order l)
    (mst_the_tree (set_of lower l) (set_of-sorted lower lower-order l))

pub any_tree_unique : (l : List Point) (t : List Edge) → TheTree l t → t ≡ mst (set_of lower l)
any_tree_unique l t r =
    the_tree_unique (set_of lower l) (set_of-sorted lower lower-order l) t
    (the_tree-members l (set_of lower l) t (λ p. ((set_of_in lower lower-order l p).1, (set_of_in lower lower-order l p).0)) r)

-- Two lists with the same members have the same tree (SPEC 2.2).
pub any_order : (l m : List Point) → ((p : Point) → Memᴰ p l ↔ Memᴰ p m) → mst (set_of lower l) ≡ mst (set_of lower m)
any_order l m h =
    ap mst
    (sorted_ext lower-order (set_of lower l) (set_of lower m) (set_of-sorted lower lower-order l) (set_of-sorted lower lower-order m)
    (λ p i. (set_of_in lower lower-order m p).1 ((h p).0 ((set_of_in lower lower-order l p).0 i)))
    (λ p i. (set_of_in lower lower-order l p).1 ((h p).1 ((set_of_in lower lower-order m p).0 i))))

-- A tree has one edge less than points, and none where there is no point.
pub any_tree-edges : (ps : List Point) → Sorted Lower ps → (t : List Edge) → Tree planar ps t → length t ≡ length ps - 1
any_tree-edges [] rise t h = omega (arith, ap length (tree_none planar t h))
any_tree-edges (p ∷ l) rise t h = omega (arith, tree-count planar (p ∷ l) t (sorted_distinct lower-order (p ∷ l) rise) h (omega arith))

pub tree-edges : (ps : List Point) → Sorted Lower ps → length (mst ps) ≡ length ps - 1
tree-edges ps rise = any_tree-edges ps rise (mst ps) (mst-run-tree ps rise).tree
