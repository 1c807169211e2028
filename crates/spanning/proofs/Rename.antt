-- Renaming the vertices and edges of a graph, one to one on the vertices used, renames Kruskal's result: the representatives
-- go along, so that each test comes out the same.
use mathlib.Core.Path.{◌≡◌, refl, sym, ◌∙◌, ap, ap₂, subst}
use mathlib.Core.Logic.{◌↔◌, inl, inr, ⊎_elim, dite}
use mathlib.Core.List.Memᴰ.{cases_cons as cases}
use mathlib.Core.List.Memᴰ.{head}
use mathlib.Core.List.Memᴰ.{tail}
use mathlib.Core.List.{List, [], ◌∷◌, map}
use Prim.Native.Nat.{ℕ, suc, ◌+◌}
use Rattle.spanning.specs.Graph.{Graph, In, total, degree}
use Rattle.spanning.specs.Kruskal.{comp, Closed, closed?, kruskal}
use Rattle.spanning.proofs.Degree.{Touches, touches?, degree_touch, degree_away}
use Rattle.spanning.proofs.Component.{comp_hit, comp_miss, kruskal_skip, kruskal_keep}

-- The edge ψ e runs between the images of the ends of e, and those ends satisfy Q.
pub record Renamed {P E P' E' : Type 0} (G : Graph P E) (G' : Graph P' E') (φ : P → P') (ψ : E → E') (Q : P → Type 0) (e : E) : Type 0 where
  pub lo : G'.lo (ψ e) ≡ φ (G.lo e)
  pub hi : G'.hi (ψ e) ≡ φ (G.hi e)
  pub lo_in : Q (G.lo e)
  pub hi_in : Q (G.hi e)

-- The vertices that satisfy Q keep their representatives among themselves.
comp-within : {P E : Type 0} (G : Graph P E) (Q : P → Type 0) (F : List E) → ((e : E) → In F e → Q (G.hi e)) → (u : P) → Q u → Q (comp G F u)
unfolding comp
comp-within G Q [] h u q = q
comp-within G Q (e ∷ F) h u q =
    dite (G.dec (comp G F u) (comp G F (G.lo e)))
    (λ p. subst Q (sym (comp_hit G F e u p)) (comp-within G Q F (λ f m. h f (tail m)) (G.hi e) (h e (head refl))))
    (λ n. subst Q (sym (comp_miss G F e u n)) (comp-within G Q F (λ f m. h f (tail m)) u q))

module _
    {P E P' E' : Type 0} (G : Graph P E) (G' : Graph P' E') (φ : P → P') (ψ : E → E') (Q : P → Type 0)
    (one : (u v : P) → Q u → Q v → φ u ≡ φ v → u ≡ v) where
  rename_step :
      (e : E) (F : List E) → Renamed G G' φ ψ Q e → ((u : P) → Q u → Q (comp G F u))
      → ((u : P) → Q u → comp G' (map ψ F) (φ u) ≡ φ (comp G F u))
      → (u : P) → Q u → comp G' (ψ e ∷ map ψ F) (φ u) ≡ φ (comp G (e ∷ F) u)
  rename_step e F r within rec u q =
      dite (G.dec (comp G F u) (comp G F (G.lo e)))
      (λ p. comp_hit G' (map ψ F) (ψ e) (φ u) (rec u q ∙ ap φ p ∙ sym low) ∙ ap (comp G' (map ψ F)) r.hi ∙ rec (G.hi e) r.hi_in
      ∙ sym (ap φ (comp_hit G F e u p)))
      (λ n. comp_miss G' (map ψ F) (ψ e) (φ u)
      (λ p. n (one (comp G F u) (comp G F (G.lo e)) (within u q) (within (G.lo e) r.lo_in) (sym (rec u q) ∙ p ∙ low)))
      ∙ rec u q ∙ sym (ap φ (comp_miss G F e u n)))
    where
      low : comp G' (map ψ F) (G'.lo (ψ e)) ≡ φ (comp G F (G.lo e))
      low = ap (comp G' (map ψ F)) r.lo ∙ rec (G.lo e) r.lo_in

  -- The representative of an image is the image of the representative.
  pub comp_rename :
      (F : List E) → ((e : E) → In F e → Renamed G G' φ ψ Q e) → (u : P) → Q u → comp G' (map ψ F) (φ u) ≡ φ (comp G F u)
  unfolding comp
  comp_rename [] h u q = refl
  comp_rename (e ∷ F) h u q =
      rename_step e F (h e (head refl)) (comp-within G Q F (λ f m. (h f (tail m)).hi_in))
      (comp_rename F (λ f m. h f (tail m))) u q

  closed_rename :
      (F : List E) (e : E) → ((f : E) → In (e ∷ F) f → Renamed G G' φ ψ Q f) → Closed G F e ↔ Closed G' (map ψ F) (ψ e)
  closed_rename F e h = (
    λ p. low ∙ ap φ p ∙ sym high,
    λ p. one (comp G F (G.lo e)) (comp G F (G.hi e)) (within (G.lo e) r.lo_in) (within (G.hi e) r.hi_in) (sym low ∙ p ∙ high),
  )
    where
      r : Renamed G G' φ ψ Q e
      r = h e (head refl)

      within : (u : P) → Q u → Q (comp G F u)
      within = comp-within G Q F (λ f m. (h f (tail m)).hi_in)

      low : comp G' (map ψ F) (G'.lo (ψ e)) ≡ φ (comp G F (G.lo e))
      low = ap (comp G' (map ψ F)) r.lo ∙ comp_rename F (λ f m. h f (tail m)) (G.lo e) r.lo_in

      high : comp G' (map ψ F) (G'.hi (ψ e)) ≡ φ (comp G F (G.hi e))
      high = ap (comp G' (map ψ F)) r.hi ∙ comp_rename F (λ f m. h f (tail m)) (G.hi e) r.hi_in

  pub kruskal_rename :
      (F es : List E) → ((e : E) → In F e → Renamed G G' φ ψ Q e) → ((e : E) → In es e → Renamed G G' φ ψ Q e)
      → kruskal G' (map ψ F) (map ψ es) ≡ map ψ (kruskal G F es)
  unfolding kruskal
  kruskal_rename F [] h k = refl
  kruskal_rename F (e ∷ es) h k =
      dite (closed? G F e)
      (λ c. kruskal_skip G' (map ψ F) (ψ e) (map ψ es) ((closed_rename F e more).0 c)
      ∙ kruskal_rename F es h (λ f m. k f (tail m)) ∙ sym (ap (map ψ) (kruskal_skip G F e es c)))
      (λ n. kruskal_keep G' (map ψ F) (ψ e) (map ψ es) (λ c. n ((closed_rename F e more).1 c))
      ∙ ap (λ K. ψ e ∷ K) (kruskal_rename (e ∷ F) es more (λ f m. k f (tail m))) ∙ sym (ap (map ψ) (kruskal_keep G F e es n)))
    where
      more : (f : E) → In (e ∷ F) f → Renamed G G' φ ψ Q f
      more f m = ⊎_elim (λ p. k f (head p)) (h f) (cases m)

  -- The number of edges at an image is that at the vertex.
  pub degree_rename : (F : List E) → ((e : E) → In F e → Renamed G G' φ ψ Q e) → (u : P) → Q u → degree G' (φ u) (map ψ F) ≡ degree G u F
  unfolding degree
  degree_rename [] h u q = refl
  degree_rename (e ∷ F) h u q = go (touches? G u e) (degree_rename F (λ f m. h f (tail m)) u q)
    where
      r : Renamed G G' φ ψ Q e
      r = h e (head refl)

      go : Dec (Touches G u e) → degree G' (φ u) (map ψ F) ≡ degree G u F → degree G' (φ u) (ψ e ∷ map ψ F) ≡ degree G u (e ∷ F)
      go (yes t) rec =
          degree_touch G' (φ u) (ψ e) (map ψ F) (⊎_elim (λ p. inl (ap φ p ∙ sym r.lo)) (λ p. inr (ap φ p ∙ sym r.hi)) t)
          ∙ ap suc rec ∙ sym (degree_touch G u e F t)
      go (no n) rec =
          degree_away G' (φ u) (ψ e) (map ψ F)
          (λ t. n (⊎_elim (λ p. inl (one u (G.lo e) q r.lo_in (p ∙ r.lo))) (λ p. inr (one u (G.hi e) q r.hi_in (p ∙ r.hi))) t))
          ∙ rec ∙ sym (degree_away G u e F n)

-- The total weight along a renaming that keeps the weights.
pub total_rename :
    {E E' : Type 0} (w : E → ℕ) (w' : E' → ℕ) (ψ : E → E') (F : List E) → ((e : E) → In F e → w' (ψ e) ≡ w e) → total w' (map ψ F) ≡ total w F
unfolding total
total_rename w w' ψ [] h = refl
total_rename w w' ψ (e ∷ F) h = ap₂ ◌+◌ (h e (head refl)) (total_rename w w' ψ F (λ f m. h f (tail m)))
