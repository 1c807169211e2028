-- A forest is a list of edges each of which joins two components of the edges after it, or of the edges before it.
-- One exchange step carries all of it: an edge that closes the walk of another can change places with it.
use mathlib.Core.Path.{◌≡◌, refl, sym, ◌∙◌, ap, subst}
use mathlib.Core.Logic.{◌↔◌, ◌⊎◌, inl, inr, ⊎_elim}
use mathlib.Core.List.Memᴰ.{cases_cons as cases}
use mathlib.Core.List.Memᴰ.{head}
use mathlib.Core.List.Memᴰ.{tail}
use mathlib.Core.List.{List, [], ◌∷◌, ◌++◌, append-nil}
use mathlib.Core.List.Memᴰ
use mathlib.Core.List.Memᴰ.{not-nil}
use Rattle.spanning.specs.Graph.{Graph, Conn, stop, fwd, bwd, In, Forest}
use Rattle.spanning.proofs.Conn.{conn_cast, conn_trans, conn_sym, conn_edge, conn_mono}
use Rattle.arrays.proofs.Members.{mem_shift, mem-split, mem_more, mem_less, Distinct}

-- Each edge joins two different components of the edges after it.
abbrev pub Grown : {P E : Type 0} → Graph P E → List E → Type 0
Grown G [] = Unit {0}
Grown G (e ∷ F) = (¬ Conn G (In F) (G.hi e) (G.lo e)) × Grown G F

-- Each edge of K joins two different components of F and the edges of K before it.
abbrev pub Joins : {P E : Type 0} → Graph P E → List E → List E → Type 0
Joins G F [] = Unit {0}
Joins G F (e ∷ K) = (¬ Conn G (In F) (G.hi e) (G.lo e)) × Joins G (e ∷ F) K

-- A walk from u to v by the edges of F and b goes without b, or crosses b once in either direction.
abbrev Cut : {P E : Type 0} → Graph P E → List E → E → P → P → Type 0
Cut G F b v u =
    Conn G (In F) v u
    ⊎ ((Conn G (In F) (G.lo b) u × Conn G (In F) v (G.hi b)) ⊎ (Conn G (In F) (G.hi b) u × Conn G (In F) v (G.lo b)))

module _ {P E : Type 0} {G : Graph P E} where
  module _ (F : List E) (b : E) (v : P) where
    cut_step : {u w : P} → Conn G (In F) w u → Cut G F b v w → Cut G F b v u
    cut_step c (inl d) = inl (conn_trans d c)
    cut_step c (inr (inl d)) = inr (inl (conn_trans d.0 c, d.1))
    cut_step c (inr (inr d)) = inr (inr (conn_trans d.0 c, d.1))

    cut_up : {u w : P} → u ≡ G.lo b → w ≡ G.hi b → Cut G F b v w → Cut G F b v u
    cut_up p q (inl d) = inr (inl (stop p, conn_cast (sym q) d))
    cut_up p q (inr (inl d)) = inr (inl (stop p, d.1))
    cut_up p q (inr (inr d)) = inl (conn_cast p d.1)

    cut_down : {u w : P} → u ≡ G.hi b → w ≡ G.lo b → Cut G F b v w → Cut G F b v u
    cut_down p q (inl d) = inr (inr (stop p, conn_cast (sym q) d))
    cut_down p q (inr (inl d)) = inl (conn_cast p d.1)
    cut_down p q (inr (inr d)) = inr (inr (stop p, d.1))

    cut : {u : P} → Conn G (In (b ∷ F)) v u → Cut G F b v u
    cut (stop p) = inl (stop p)
    cut (fwd e (head q) p c) = cut_up (p ∙ ap G.lo q) (ap G.hi q) (cut c)
    cut (fwd e (tail m) p c) = cut_step (fwd e m p (stop refl)) (cut c)
    cut (bwd e (head q) p c) = cut_down (p ∙ ap G.hi q) (ap G.lo q) (cut c)
    cut (bwd e (tail m) p c) = cut_step (bwd e m p (stop refl)) (cut c)

  -- If b closes e over F, and F alone does not, then e closes b over F.
  pub exchange :
      (F : List E) (b e : E) → ¬ Conn G (In F) (G.hi e) (G.lo e) → Conn G (In (b ∷ F)) (G.hi e) (G.lo e)
      → Conn G (In (e ∷ F)) (G.hi b) (G.lo b)
  exchange F b e n c = go (cut F b (G.hi e) c)
    where
      up : {u v : P} → Conn G (In F) v u → Conn G (In (e ∷ F)) v u
      up = conn_mono (λ f m. tail m)

      here : Conn G (In (e ∷ F)) (G.hi e) (G.lo e)
      here = conn_edge e (head refl)

      go : Cut G F b (G.hi e) (G.lo e) → Conn G (In (e ∷ F)) (G.hi b) (G.lo b)
      go (inl d) = absurd (n d)
      go (inr (inl d)) = conn_trans (conn_sym (up d.1)) (conn_trans here (conn_sym (up d.0)))
      go (inr (inr d)) = conn_trans (up d.0) (conn_trans (conn_sym here) (up d.1))

module _ {P E : Type 0} (G : Graph P E) where
  grown_middle :
      (s : List E) (e : E) (t : List E) → Grown G (s ++ (e ∷ t)) → ¬ Conn G (In (s ++ t)) (G.hi e) (G.lo e)
  grown_middle [] e t g = g.0
  grown_middle (b ∷ s) e t g = λ c.
      g.0 (conn_mono (λ f m. ⊎_elim (λ p. Memᴰ.append_right s (head p)) (mem_more s e t) (cases m))
      (exchange (s ++ t) b e (grown_middle s e t g.1) c))

  -- The plain reading of a forest says the same as the form by which it grows.
  pub forest_grown : (F : List E) → Forest G F ↔ Grown G F
  forest_grown F = (to F, λ g s t e p. grown_middle s e t (subst (Grown G) p g))
    where
      to : (F : List E) → Forest G F → Grown G F
      to [] h = tt
      to (e ∷ F) h = (h [] F e refl, to F (λ s t f p c. h (e ∷ s) t f (ap (λ k. e ∷ k) p) (conn_mono (λ g m. tail m) c)))

  -- A forest without one of its edges is a forest.
  grown_without : (s : List E) (e : E) (t : List E) → Grown G (s ++ (e ∷ t)) → Grown G (s ++ t)
  grown_without [] e t g = g.1
  grown_without (b ∷ s) e t g = (λ c. g.0 (conn_mono (λ f m. mem_more s e t m) c), grown_without s e t g.1)

  pub joins_grown : (F K : List E) → Grown G F → Joins G F K → Grown G (K ++ F)
  joins_grown F [] g j = g
  joins_grown F (e ∷ K) g j =
      let h = joins_grown (e ∷ F) K (j.0, g) j.1 in
      (grown_middle K e F h, grown_without K e F h)

  -- The same from the front: each edge joins two components of the edges before it.
  pub forest-joins : (F : List E) → Forest G F ↔ Joins G [] F
  forest-joins F = (
    λ h. to [] F (λ s e t p c. h s t e p (conn_mono (λ f. ⊎_elim (λ m. absurd (not-nil m)) (Memᴰ.append_left t)) c)),
    λ j. (forest_grown F).1 (subst (Grown G) (append-nil F) (joins_grown [] F tt j)),
  )
    where
      to :
          (B K : List E) → ((s : List E) (e : E) (t : List E) → K ≡ s ++ (e ∷ t) → ¬ Conn G (λ f. In B f ⊎ In s f) (G.hi e) (G.lo e))
          → Joins G B K
      to B [] h = tt
      to B (e ∷ K) h = (
        λ c. h [] e K refl (conn_mono (λ f m. inl m) c),
        to (e ∷ B) K (λ s f t p c. h (e ∷ s) f t (ap (λ k. e ∷ k) p)
            (conn_mono (λ g. (mem_shift e g B s).0) c)),
      )

  -- A part of a forest, without repeats, is a forest.
  pub forest_part : (A B : List E) → Distinct A → ((e : E) → In A e → In B e) → Forest G B → Forest G A
  forest_part A B d sub h = (forest_grown A).1 (go A d sub)
    where
      go : (A : List E) → Distinct A → ((e : E) → In A e → In B e) → Grown G A
      go [] d sub = tt
      go (e ∷ A) d sub =
          let r = mem-split (sub e (head refl)) in (
            λ c. h r.0 r.1 e r.2
                (conn_mono (λ f m. mem_less r.0 e r.1 (λ p. d.0 f m (sym p)) (subst (λ l. In l f) r.2 (sub f (tail m)))) c),
            go A d.1 (λ f m. sub f (tail m)),
          )
