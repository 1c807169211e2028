-- Trees over the vertices ps against the edges E₀ between members of ps, where these connect all of ps: a tree inside E₀ is a
-- spanning forest of E₀ and the other way round, so that Kruskal's result is a tree, and no tree inside E₀ is lighter.
use mathlib.Core.List.{List, [], Memᴰ}
use Prim.Native.Nat.{ℕ, ◌≤◌}
use Rattle.spanning.specs.Graph.{Graph, Conn, In, Tree, total}
use Rattle.spanning.specs.Kruskal.{kruskal}
use Rattle.arrays.specs.Order.{StrictTotal, Sorted}
use Rattle.spanning.proofs.Conn.{conn_bind}
use Rattle.spanning.proofs.Kruskal.{kruskal_in, kruskal-forest, kruskal_connects}
use Rattle.spanning.proofs.Rank.{Spans}
use Rattle.spanning.proofs.Least.{Spanning}
use Rattle.spanning.proofs.Cover.{cover}

-- The edges E₀ run between members of ps and connect them all.
pub record Links {P E : Type 0} (G : Graph P E) (ps : List P) (E₀ : List E) : Type 0 where
  pub ends : (e : E) → In E₀ e → Memᴰ (G.lo e) ps × Memᴰ (G.hi e) ps
  pub connected : (u v : P) → Memᴰ u ps → Memᴰ v ps → Conn G (In E₀) v u

module _ {P E : Type 0} {G : Graph P E} {ps : List P} {E₀ : List E} (links : Links G ps E₀) where
  pub tree_connects : {T : List E} → Tree G ps T → Spans G T E₀
  tree_connects t e m = let h = links.ends e m in t.spans (G.lo e) (G.hi e) h.0 h.1

  pub tree_spanning :
      {before : E → E → Type 0} {T : List E} → Sorted before T → ((e : E) → In T e → In E₀ e) → Tree G ps T → Spanning G before E₀ T
  tree_spanning s sub t = record { sorted = s; inside = sub; forest = t.forest; connects = tree_connects t }

  pub spanning_tree : {before : E → E → Type 0} {T : List E} → Spanning G before E₀ T → Tree G ps T
  spanning_tree s =
      record {
        ends = λ e m. links.ends e (s.inside e m);
        spans = λ u v m k. conn_bind s.connects (links.connected u v m k);
        forest = s.forest;
      }

  pub kruskal-tree : Tree G ps (kruskal G [] E₀)
  kruskal-tree =
      record {
        ends = λ e m. links.ends e (kruskal_in G [] E₀ e m);
        spans = λ u v m k. (kruskal_connects G E₀).1 (links.connected u v m k);
        forest = kruskal-forest G E₀;
      }

  pub tree-least :
      {before : E → E → Type 0} → StrictTotal before → (w : E → ℕ) → ((e f : E) → before e f → w e ≤ w f) → Sorted before E₀
      → (T : List E) → ((e : E) → In T e → In E₀ e) → Tree G ps T → total w (kruskal G [] E₀) ≤ total w T
  tree-least order w light s T sub t = cover G order w light E₀ T s sub (tree_connects t)
