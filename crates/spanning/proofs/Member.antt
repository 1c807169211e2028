-- Which edges Kruskal's method keeps of a sorted list (L5): those whose ends no earlier edges of the list connect. From it follow
-- that edges closed by earlier ones may be left out (L7), that an edge stays kept where edges are taken out (L8, L9), and
-- that an edge with a detour over earlier edges is not kept (L10).
use mathlib.Core.Path.{◌≡◌, sym, subst}
use mathlib.Core.Logic.{◌↔◌, ◌⊎◌, inl, inr, ⊎_elim}
use mathlib.Core.List.Memᴰ.{cases_cons as cases}
use mathlib.Core.List.Memᴰ.{head}
use mathlib.Core.List.Memᴰ.{not-nil}
use mathlib.Core.List.Memᴰ.{tail}
use mathlib.Core.List.{List, [], ◌∷◌}
use Rattle.spanning.specs.Graph.{Graph, Conn, In}
use Rattle.spanning.specs.Kruskal.{kruskal}
use Rattle.arrays.specs.Order.{StrictTotal, Sorted}
use Rattle.spanning.proofs.Conn.{conn_edge, conn_mono, conn_bind}
use Rattle.spanning.proofs.Component.{kruskal_cases}
use Rattle.arrays.proofs.Members.{sorted_ext}
use Rattle.spanning.proofs.Kruskal.{kruskal_in, kruskal-sorted}

-- The edges of l that come before e.
abbrev pub Earlier : {E : Type 0} → (E → E → Type 0) → List E → E → E → Type 0
Earlier before l e f = In l f × before f e

-- The edges of the base F, and those of l that come before e.
abbrev Past : {E : Type 0} → (E → E → Type 0) → List E → List E → E → E → Type 0
Past before F l e f = In F f ⊎ Earlier before l e f

-- The first edge x of a list can be left out, or counted to the base.
module _ {E : Type 0} (before : E → E → Type 0) {F l : List E} {x e f : E} where
  past-tail : Past before F l e f → Past before F (x ∷ l) e f
  past-tail = ⊎_elim inl (λ m. inr (tail m.0, m.1))

  past_down : Past before F (x ∷ l) e f → Past before (x ∷ F) l e f
  past_down = ⊎_elim (λ m. inl (tail m)) (λ m. ⊎_elim (λ p. inl (head p)) (λ k. inr (k, m.1)) (cases m.0))

  past_up : before x e → Past before (x ∷ F) l e f → Past before F (x ∷ l) e f
  past_up b = ⊎_elim (λ m. ⊎_elim (λ p. inr (head p, subst (λ y. before y e) (sym p) b)) inl (cases m)) (λ m. inr (tail m.0, m.1))

module _ {P E : Type 0} (G : Graph P E) {before : E → E → Type 0} (order : StrictTotal before) where
  kept_open :
      (F es : List E) (e : E) → Sorted before es → In (kruskal G F es) e → ¬ Conn G (Past before F es e) (G.hi e) (G.lo e)
  unfolding kruskal
  kept_open F [] e s m = absurd (not-nil m)
  kept_open F (x ∷ es) e s m =
      kruskal_cases G F x es (λ K. In K e → ¬ Conn G (Past before F (x ∷ es) e) (G.hi e) (G.lo e))
      (λ c k d. kept_open F es e s.1 k (without c d))
      (λ n k d. ⊎_elim (λ p. n (base p d)) (λ j. kept_open (x ∷ F) es e s.1 j (conn_mono (λ f. past_down before) d)) (cases k))
      m
    where
      -- An edge that the base closes is not needed.
      without :
          {u v : P} → Conn G (In F) (G.hi x) (G.lo x) → Conn G (Past before F (x ∷ es) e) v u → Conn G (Past before F es e) v u
      without c =
          conn_bind (λ f. ⊎_elim (λ j. conn_edge f (inl j))
          (λ j. ⊎_elim (λ p. rw p (conn_mono (λ g i. inl i) c)) (λ i. conn_edge f (inr (i, j.1))) (cases j.0)))

      -- No edge of a sorted list comes before its first.
      none : (f : E) → In (x ∷ es) f → ¬ before f x
      none f k b =
          ⊎_elim (λ p. order.irrefl x (subst (λ y. before y x) p b)) (λ j. order.irrefl f (order.trans f x f b (s.0 f j))) (cases k)

      base : e ≡ x → Conn G (Past before F (x ∷ es) e) (G.hi e) (G.lo e) → Conn G (In F) (G.hi x) (G.lo x)
      base p d =
          subst (λ y. Conn G (In F) (G.hi y) (G.lo y)) p
          (conn_mono (λ f. ⊎_elim (λ j. j) (λ j. absurd (none f j.0 (subst (before f) p j.1)))) d)

  open_kept :
      (F es : List E) (e : E) → Sorted before es → In es e → ¬ Conn G (Past before F es e) (G.hi e) (G.lo e) → In (kruskal G F es) e
  open_kept F [] e s m n = absurd (not-nil m)
  open_kept F (x ∷ es) e s m n =
      kruskal_cases G F x es (λ K. In K e)
      (λ c. ⊎_elim (λ p. absurd (n (rw p (conn_mono (λ g i. inl i) c))))
      (λ k. open_kept F es e s.1 k (λ d. n (conn_mono (λ f. past-tail before) d)))
      (cases m))
      (λ _. ⊎_elim head
      (λ k. tail (open_kept (x ∷ F) es e s.1 k (λ d. n (conn_mono (λ f. past_up before (s.0 e k)) d))))
      (cases m))

  pub in_kruskal :
      (E₀ : List E) (e : E) → Sorted before E₀
      → In (kruskal G [] E₀) e ↔ (In E₀ e × ¬ Conn G (Earlier before E₀ e) (G.hi e) (G.lo e))
  in_kruskal E₀ e s = (
    λ m. (kruskal_in G [] E₀ e m, λ c. kept_open [] E₀ e s m (conn_mono (λ f k. inr k) c)),
    λ h. open_kept [] E₀ e s h.0 (λ c. h.1 (conn_mono (λ f. ⊎_elim (λ m. absurd (not-nil m)) (λ k. k)) c)),
  )

  -- The edges kept among those before e connect all that comes before e.
  kept_spans :
      (F es : List E) (e f : E) → Sorted before es → Earlier before es e f
      → Conn G (Past before F (kruskal G F es) e) (G.hi f) (G.lo f)
  kept_spans F [] e f s m = absurd (not-nil m.0)
  kept_spans F (x ∷ es) e f s m =
      kruskal_cases G F x es (λ K. Conn G (Past before F K e) (G.hi f) (G.lo f))
      (λ c. ⊎_elim (λ p. rw p (conn_mono (λ g i. inl i) c)) (λ k. kept_spans F es e f s.1 (k, m.1)) (cases m.0))
      (λ _. ⊎_elim (λ p. conn_edge f (inr (head p, m.1)))
      (λ k. conn_mono (λ g. past_up before (order.trans x f e (s.0 f k) m.1)) (kept_spans (x ∷ F) es e f s.1 (k, m.1)))
      (cases m.0))

  -- A part that has every edge kept of the whole gives the same tree.
  pub sandwich :
      (A B : List E) → Sorted before A → Sorted before B → ((e : E) → In A e → In B e)
      → ((e : E) → In (kruskal G [] B) e → In A e) → kruskal G [] A ≡ kruskal G [] B
  sandwich A B s t sub kept =
      sorted_ext order (kruskal G [] A) (kruskal G [] B) (kruskal-sorted G before [] A s) (kruskal-sorted G before [] B t)
      (λ e m. let h = (in_kruskal A e s).0 m in
      (in_kruskal B e t).1 (sub e h.0, λ c. h.1 (conn_mono (λ f k. (kept f k.0, k.1)) (fewer e c))))
      (λ e m. let h = (in_kruskal B e t).0 m in
      (in_kruskal A e s).1 (kept e m, λ c. h.1 (conn_mono (λ f k. (sub f k.0, k.1)) c)))
    where
      fewer : (e : E) {u v : P} → Conn G (Earlier before B e) v u → Conn G (Earlier before (kruskal G [] B) e) v u
      fewer e = conn_bind (λ f k. conn_mono (λ g. ⊎_elim (λ m. absurd (not-nil m)) (λ j. j)) (kept_spans [] B e f t k))

  -- Edges that earlier edges close may be left out.
  pub thin :
      (A B : List E) → Sorted before A → Sorted before B → ((e : E) → In A e → In B e)
      → ((e : E) → In B e → In A e ⊎ Conn G (Earlier before B e) (G.hi e) (G.lo e))
      → kruskal G [] A ≡ kruskal G [] B
  thin A B s t sub rest =
      sandwich A B s t sub
      (λ e m. let h = (in_kruskal B e t).0 m in ⊎_elim (λ k. k) (λ c. absurd (h.1 c)) (rest e h.0))

  -- An edge that is kept among more edges is kept among fewer.
  pub kept_fewer :
      (A B : List E) → Sorted before A → Sorted before B → ((e : E) → In A e → In B e)
      → (e : E) → In A e → In (kruskal G [] B) e → In (kruskal G [] A) e
  kept_fewer A B s t sub e m k =
      (in_kruskal A e s).1 (m, λ c. ((in_kruskal B e t).0 k).1 (conn_mono (λ f j. (sub f j.0, j.1)) c))

  -- An edge whose ends two earlier edges connect is not kept.
  pub detour :
      (E₀ : List E) (e f g : E) → Sorted before E₀ → In E₀ f → In E₀ g → before f e → before g e
      → Conn G (λ h. (h ≡ f) ⊎ (h ≡ g)) (G.hi e) (G.lo e) → ¬ In (kruskal G [] E₀) e
  detour E₀ e f g s m k b c d j =
      ((in_kruskal E₀ e s).0 j).1
      (conn_mono (λ h. ⊎_elim (λ p. (rw p m, subst (λ x. before x e) (sym p) b)) (λ p. (rw p k, subst (λ x. before x e) (sym p) c))) d)
