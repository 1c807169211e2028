-- A tree on n vertices, n at least 1, has n - 1 edges: it and the star of the first vertex connect each other's edges, and
-- both are forests, so that by the rank neither is longer. The star need not be in the graph: it stands in the graph of all pairs.
use mathlib.Core.Path.{◌≡◌, refl, sym, ◌∙◌, ap, subst}
use mathlib.Core.Logic.{⊎_elim}
use mathlib.Core.List.Memᴰ.{cases_cons as cases}
use mathlib.Core.List.Memᴰ.{head}
use mathlib.Core.List.Memᴰ.{tail}
use mathlib.Core.List.{List, [], ◌∷◌, map, Memᴰ}
use mathlib.Core.List.Memᴰ
use mathlib.Core.List.Memᴰ.{not-nil}
use Prim.Native.Nat.{suc, ◌≤◌}
use native.Mathlib.Omega.{arith}
use lib.ListN.{length, length-map}
use Rattle.spanning.specs.Graph.{Graph, Conn, stop, fwd, bwd, In, Forest, Tree}
use Rattle.spanning.proofs.Conn.{conn_trans, conn_sym, conn_edge, conn_map}
use Rattle.arrays.proofs.Members.{Distinct, mem-split}
use Rattle.spanning.proofs.Forest.{Grown, forest_grown}
use Rattle.spanning.proofs.Rank.{rank}

-- The graph of all pairs of vertices.
abbrev pairs : {P E : Type 0} → Graph P E → Graph P (P × P)
pairs G = record { lo = λ e. e.0; hi = λ e. e.1; dec = G.dec }

module _ {P E : Type 0} (G : Graph P E) where
  abbrev pair : E → P × P
  pair e = (G.lo e, G.hi e)

  to_pairs : (F : List E) {u v : P} → Conn G (In F) v u → Conn (pairs G) (In (map pair F)) v u
  to_pairs F = conn_map (λ u. u) (λ e m. conn_edge {G = pairs G} (pair e) (Memᴰ.map pair m))

  from_pairs : (F : List E) {u v : P} → Conn (pairs G) (In (map pair F)) v u → Conn G (In F) v u
  from_pairs F =
      conn_map (λ u. u)
      (λ e m. let r = Memᴰ.of_map pair F m in subst (λ x. Conn G (In F) x.1 x.0) r.2 (conn_edge r.0 r.1))

  pairs_grown : (F : List E) → Grown G F → Grown (pairs G) (map pair F)
  pairs_grown [] g = tt
  pairs_grown (e ∷ F) g = (λ c. g.0 (from_pairs F c), pairs_grown F g.1)

  module _ (p : P) where
    abbrev star : List P → List (P × P)
    star = map (λ q. (p, q))

    -- A vertex other than p at which no edge of the star ends is connected with no other.
    star-apart : (ps : List P) (q : P) → ¬ (q ≡ p) → ¬ Memᴰ q ps → ¬ Conn (pairs G) (In (star ps)) p q
    star-apart ps q n away (stop e) = n e
    star-apart ps q n away (fwd e m h c) = let r = Memᴰ.of_map (λ x. (p, x)) ps m in n (h ∙ sym (ap (λ x. x.0) r.2))
    star-apart ps q n away (bwd e m h c) =
        let r = Memᴰ.of_map (λ x. (p, x)) ps m in away (subst (λ x. Memᴰ x ps) (ap (λ x. x.1) r.2 ∙ sym h) r.1)

    star_grown : (ps : List P) → Distinct (p ∷ ps) → Grown (pairs G) (star ps)
    star_grown [] d = tt
    star_grown (q ∷ ps) d = (
      λ c. star-apart ps q (λ e. d.0 q (head refl) (sym e)) (λ m. d.1.0 q m refl) (conn_sym c),
      star_grown ps (λ r m. d.0 r (tail m), d.1.1),
    )

    star_reach : (ps : List P) (q : P) → Memᴰ q (p ∷ ps) → Conn (pairs G) (In (star ps)) q p
    star_reach ps q m =
        ⊎_elim (λ e. stop (sym e)) (λ k. conn_edge {G = pairs G} (p, q) (Memᴰ.map (λ x. (p, x)) k)) (cases m)

  pub tree-count : (ps : List P) (F : List E) → Distinct ps → Tree G ps F → 1 ≤ length ps → suc (length F) ≡ length ps
  tree-count [] F d t h = omega arith
  tree-count (p ∷ ps) F d t h =
      let H = pairs G in
      let S = star p ps in
      let few : length (map pair F) ≤ length S =
      rank H (map pair F) S ((forest_grown H (map pair F)).1 (pairs_grown F ((forest_grown G F).0 t.forest)))
      (λ x m. let r = Memᴰ.of_map pair F m in let e = t.ends r.0 r.1 in
      subst (λ y. Conn H (In S) y.1 y.0) r.2
      (conn_trans (star_reach p ps (G.hi r.0) e.1) (conn_sym (star_reach p ps (G.lo r.0) e.0)))) in
      let many : length S ≤ length (map pair F) =
      rank H S (map pair F) ((forest_grown H S).1 (star_grown p ps d))
      (λ x m. let r = Memᴰ.of_map (λ q. (p, q)) ps m in
      subst (λ y. Conn H (In (map pair F)) y.1 y.0) r.2
      (to_pairs F (t.spans p r.0 (head refl) (tail r.1)))) in
      omega (arith, few, many, length-map F pair, length-map {B = P × P} ps (λ q. (p, q)))

  pub tree_none : (F : List E) → Tree G [] F → F ≡ []
  tree_none [] t = refl
  tree_none (e ∷ F) t = absurd (not-nil (t.ends e (head refl)).0)

  -- No edge of a forest is a loop.
  pub forest-ends : (F : List E) → Forest G F → (e : E) → In F e → ¬ (G.lo e ≡ G.hi e)
  forest-ends F h e m p = let r = mem-split m in h r.0 r.1 e r.2 (stop p)
