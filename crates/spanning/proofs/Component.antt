-- Two vertices have the same representative exactly if they are connected, so connectivity by a list is decidable (L1).
-- A vertex is connected with its own representative, and each edge of the list leaves its two ends the same one.
use mathlib.Core.Path.{◌≡◌, refl, sym, ◌∙◌, ap, subst}
use mathlib.Core.Logic.{◌↔◌, dite, if_pos, if_neg}
use mathlib.Core.List.Memᴰ.{head}
use mathlib.Core.List.Memᴰ.{tail}
use mathlib.Core.List.{List, [], ◌∷◌}
use Rattle.spanning.specs.Graph.{Graph, Conn, stop, fwd, bwd, In}
use Rattle.spanning.specs.Kruskal.{comp, Closed, closed?, kruskal}
use Rattle.spanning.proofs.Conn.{conn_trans, conn_sym, conn_edge, conn_mono}

module _ {P E : Type 0} (G : Graph P E) (F : List E) (e : E) where
  -- The two outcomes of the test in `comp`.
  pub comp_hit : (u : P) → comp G F u ≡ comp G F (G.lo e) → comp G (e ∷ F) u ≡ comp G F (G.hi e)
  unfolding comp
  comp_hit u p = if_pos (G.dec (comp G F u) (comp G F (G.lo e))) p (comp G F (G.hi e)) (comp G F u)

  pub comp_miss : (u : P) → ¬ (comp G F u ≡ comp G F (G.lo e)) → comp G (e ∷ F) u ≡ comp G F u
  unfolding comp
  comp_miss u n = if_neg (G.dec (comp G F u) (comp G F (G.lo e))) n (comp G F (G.hi e)) (comp G F u)

  -- Vertices with one representative keep one.
  comp-step : (u v : P) → comp G F u ≡ comp G F v → comp G (e ∷ F) u ≡ comp G (e ∷ F) v
  unfolding comp
  comp-step u v p = ap (λ c. dite (G.dec c (comp G F (G.lo e))) (λ _. comp G F (G.hi e)) (λ _. c)) p

  -- The latest edge gives its ends one representative.
  comp-ends : comp G (e ∷ F) (G.lo e) ≡ comp G (e ∷ F) (G.hi e)
  comp-ends =
      dite (G.dec (comp G F (G.hi e)) (comp G F (G.lo e)))
      (λ p. comp_hit (G.lo e) refl ∙ sym (comp_hit (G.hi e) p))
      (λ n. comp_hit (G.lo e) refl ∙ sym (comp_miss (G.hi e) n))

module _ {P E : Type 0} (G : Graph P E) where
  comp_root : (F : List E) (u : P) → Conn G (In F) (comp G F u) u
  unfolding comp
  comp_root [] u = stop refl
  comp_root (e ∷ F) u = go (G.dec (comp G F u) (comp G F (G.lo e))) (later (comp_root F u)) (later (comp_root F (G.lo e))) (later (comp_root F (G.hi e)))
    where
      later : {a b : P} → Conn G (In F) a b → Conn G (In (e ∷ F)) a b
      later = conn_mono (λ f m. tail m)

      go :
          Dec (comp G F u ≡ comp G F (G.lo e)) → Conn G (In (e ∷ F)) (comp G F u) u → Conn G (In (e ∷ F)) (comp G F (G.lo e)) (G.lo e)
          → Conn G (In (e ∷ F)) (comp G F (G.hi e)) (G.hi e) → Conn G (In (e ∷ F)) (comp G (e ∷ F) u) u
      go (yes p) c a b =
          subst (λ r. Conn G (In (e ∷ F)) r u) (sym (comp_hit G F e u p))
          (conn_trans b (conn_trans (conn_edge e (head refl)) (conn_trans (conn_sym a) (conn_trans (stop p) c))))
      go (no n) c a b = subst (λ r. Conn G (In (e ∷ F)) r u) (sym (comp_miss G F e u n)) c

  comp-edge : (F : List E) (e : E) → In F e → comp G F (G.lo e) ≡ comp G F (G.hi e)
  comp-edge [] e h = elim h [ ]
  comp-edge (x ∷ F) e (head p) =
      ap (λ f. comp G (x ∷ F) (G.lo f)) p ∙ comp-ends G F x ∙ sym (ap (λ f. comp G (x ∷ F) (G.hi f)) p)
  comp-edge (x ∷ F) e (tail m) = comp-step G F x (G.lo e) (G.hi e) (comp-edge F e m)

  comp_of_conn : (F : List E) {v u : P} → Conn G (In F) v u → comp G F u ≡ comp G F v
  comp_of_conn F (stop p) = ap (comp G F) p
  comp_of_conn F (fwd e m p c) = ap (comp G F) p ∙ comp-edge F e m ∙ comp_of_conn F c
  comp_of_conn F (bwd e m p c) = ap (comp G F) p ∙ sym (comp-edge F e m) ∙ comp_of_conn F c

  pub comp_conn : (F : List E) (u v : P) → (comp G F u ≡ comp G F v) ↔ Conn G (In F) v u
  comp_conn F u v = (λ p. conn_trans (conn_sym (comp_root F v)) (conn_trans (stop p) (comp_root F u)), comp_of_conn F)

  pub conn? : (F : List E) (u v : P) → Dec (Conn G (In F) v u)
  conn? F u v = go (G.dec (comp G F u) (comp G F v))
    where
      go : Dec (comp G F u ≡ comp G F v) → Dec (Conn G (In F) v u)
      go (yes p) = yes ((comp_conn F u v).0 p)
      go (no n) = no (λ c. n ((comp_conn F u v).1 c))

module _ {P E : Type 0} (G : Graph P E) (F : List E) (e : E) (es : List E) where
  -- The two outcomes of the test in `kruskal`.
  pub kruskal_skip : Closed G F e → kruskal G F (e ∷ es) ≡ kruskal G F es
  unfolding kruskal
  kruskal_skip p = if_pos (closed? G F e) p (kruskal G F es) (e ∷ kruskal G (e ∷ F) es)

  pub kruskal_keep : ¬ Closed G F e → kruskal G F (e ∷ es) ≡ e ∷ kruskal G (e ∷ F) es
  unfolding kruskal
  kruskal_keep n = if_neg (closed? G F e) n (kruskal G F es) (e ∷ kruskal G (e ∷ F) es)

  -- The same as one case split, by connectivity: what holds of both outcomes holds of the result.
  pub kruskal_cases :
      (M : List E → Type 0)
      → (Conn G (In F) (G.hi e) (G.lo e) → M (kruskal G F es))
      → (¬ Conn G (In F) (G.hi e) (G.lo e) → M (e ∷ kruskal G (e ∷ F) es))
      → M (kruskal G F (e ∷ es))
  kruskal_cases M skip keep = go (closed? G F e)
    where
      go : Dec (Closed G F e) → M (kruskal G F (e ∷ es))
      go (yes p) = subst M (sym (kruskal_skip p)) (skip ((comp_conn G F (G.lo e) (G.hi e)).0 p))
      go (no n) = subst M (sym (kruskal_keep n)) (keep (λ c. n ((comp_conn G F (G.lo e) (G.hi e)).1 c)))
