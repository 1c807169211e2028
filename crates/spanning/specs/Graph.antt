-- Graphs, connectivity, forests and trees over any vertices and edges. Nothing here knows what a point is.
use Rattle.std.specs.Prelude.{◌≡◌, ℕ, ◌+◌}
use mathlib.Core.List.{List, [], ◌∷◌, ◌++◌, Memᴰ}

-- The edges of a graph: each edge has two ends, and of two vertices it can be decided whether they are equal.
pub record Graph (P E : Type 0) : Type 0 where
  pub lo : E → P
  pub hi : E → P
  pub dec : Discrete P

-- `Conn G S v u`: u and v are connected by edges that satisfy S, walking from u to v.
pub data Conn {P E : Type 0} (G : Graph P E) (S : E → Type 0) (v : P) : P → Type 0 where
  stop : {u : P} → u ≡ v → Conn G S v u
  fwd : {u : P} (e : E) → S e → u ≡ G.lo e → Conn G S v (G.hi e) → Conn G S v u
  bwd : {u : P} (e : E) → S e → u ≡ G.hi e → Conn G S v (G.lo e) → Conn G S v u

-- The edges of a list, as a set: connectivity by a list of edges is `Conn G (In F)`.
abbrev pub In : {E : Type 0} → List E → E → Type 0
In F e = Memᴰ e F

-- A forest (SPEC 1.5): no edge of F has its ends connected by the other edges of F, so there is no cycle.
abbrev pub Forest : {P E : Type 0} → Graph P E → List E → Type 0
Forest {E = E} G F =
    (before after : List E) (e : E) → F ≡ before ++ (e ∷ after)
    → ¬ Conn G (In (before ++ after)) (G.hi e) (G.lo e)

-- A tree over the vertices `ps` (SPEC 1.5): its edges end in them and connect them all, and without any one of them they would not.
pub record Tree {P E : Type 0} (G : Graph P E) (ps : List P) (F : List E) : Type 0 where
  pub ends : (e : E) → Memᴰ e F → Memᴰ (G.lo e) ps × Memᴰ (G.hi e) ps
  pub spans : (u v : P) → Memᴰ u ps → Memᴰ v ps → Conn G (In F) v u
  pub forest : Forest G F

-- The total weight of a list of edges; of a tree by its lengths, the length of the tree (SPEC 1.5).
unfoldable pub total : {E : Type 0} → (E → ℕ) → List E → ℕ
total w [] = 0
total w (e ∷ F) = w e + total w F

-- How many edges of F have an end at p.
unfoldable pub degree : {P E : Type 0} → Graph P E → P → List E → ℕ
degree G p [] = 0
degree G p (e ∷ F) = ends (G.dec p (G.lo e)) (G.dec p (G.hi e)) + degree G p F
  where
    ends : Dec (p ≡ G.lo e) → Dec (p ≡ G.hi e) → ℕ
    ends (yes a) b = 1
    ends (no a) (yes b) = 1
    ends (no a) (no b) = 0
