-- Degrees (L12): over the vertices of a tree they add up to twice the number of edges, and each is 1 at least where there are
-- two vertices. So there are at least two more vertices of degree 1 or 2 than of degree 3 and more.
use mathlib.Core.Path.{◌≡◌, refl, sym, ◌∙◌, ap, subst}
use mathlib.Core.HLevel.{hedberg}
use mathlib.Core.Logic.{◌↔◌, ◌⊎◌, inl, inr, ⊎_elim, dite, Dec-prop, if_pos, if_neg}
use mathlib.Core.List.Memᴰ.{cases_cons as cases}
use mathlib.Core.List.Memᴰ.{head}
use mathlib.Core.List.Memᴰ.{not-nil}
use mathlib.Core.List.Memᴰ.{tail}
use mathlib.Core.List.{List, [], ◌∷◌, Memᴰ}
use Prim.Native.Nat.{ℕ, suc, ◌+◌, ◌*◌, ◌≤◌}
use native.Mathlib.Omega.{arith}
use lib.ListN.{length}
use Rattle.spanning.specs.Graph.{Graph, Conn, stop, fwd, bwd, In, Tree, total, degree}
use Rattle.arrays.proofs.Members.{Distinct, member_length}
use Rattle.spanning.proofs.Totals.{take_out, total_same_terms, total-least, total_const, total-union}
use Rattle.spanning.proofs.Count.{tree-count, forest-ends}

-- The vertex p is an end of the edge e.
abbrev pub Touches : {P E : Type 0} → Graph P E → P → E → Type 0
Touches G p e = (p ≡ G.lo e) ⊎ (p ≡ G.hi e)

abbrev pub touches? : {P E : Type 0} (G : Graph P E) (p : P) (e : E) → Dec (Touches G p e)
touches? G p e =
    dite (G.dec p (G.lo e)) (λ a. yes (inl a)) (λ a. dite (G.dec p (G.hi e)) (λ b. yes (inr b)) (λ b. no (⊎_elim a b)))

-- The edges of F with an end at p.
unfoldable pub edges_at : {P E : Type 0} → Graph P E → P → List E → List E
edges_at G p [] = []
edges_at G p (e ∷ F) = dite (touches? G p e) (λ _. e ∷ edges_at G p F) (λ _. edges_at G p F)

first_member : {A : Type 0} (l : List A) → 1 ≤ length l → (a : A) × Memᴰ a l
first_member [] h = absurd (omega arith)
first_member (a ∷ l) h = (a, head refl)

module _ {P E : Type 0} (G : Graph P E) (p : P) where
  module _ (e : E) (F : List E) where
    low : p ≡ G.lo e → degree G p (e ∷ F) ≡ suc (degree G p F)
    unfolding degree
    low a = rw (Dec-prop (hedberg G.dec p (G.lo e)) (G.dec p (G.lo e)) (yes a)) (omega arith)

    -- One more edge adds one to the degree of each of its ends, and nothing to another vertex.
    pub degree_touch : Touches G p e → degree G p (e ∷ F) ≡ suc (degree G p F)
    unfolding degree
    degree_touch (inl a) = low a
    degree_touch (inr b) =
        dite (G.dec p (G.lo e)) low
        (λ n. rw (
          Dec-prop (hedberg G.dec p (G.lo e)) (G.dec p (G.lo e)) (no n),
          Dec-prop (hedberg G.dec p (G.hi e)) (G.dec p (G.hi e)) (yes b),
        ) (omega arith))

    pub degree_away : ¬ Touches G p e → degree G p (e ∷ F) ≡ degree G p F
    unfolding degree
    degree_away n =
        rw (
          Dec-prop (hedberg G.dec p (G.lo e)) (G.dec p (G.lo e)) (no (λ a. n (inl a))),
          Dec-prop (hedberg G.dec p (G.hi e)) (G.dec p (G.hi e)) (no (λ b. n (inr b))),
        ) (omega arith)

    pub edges_touch : Touches G p e → edges_at G p (e ∷ F) ≡ e ∷ edges_at G p F
    unfolding edges_at
    edges_touch h = if_pos (touches? G p e) h (e ∷ edges_at G p F) (edges_at G p F)

    pub edges_away : ¬ Touches G p e → edges_at G p (e ∷ F) ≡ edges_at G p F
    unfolding edges_at
    edges_away n = if_neg (touches? G p e) n (e ∷ edges_at G p F) (edges_at G p F)

  -- The degree counts the edges at p.
  pub degree-edges : (F : List E) → degree G p F ≡ length (edges_at G p F)
  unfolding degree edges_at
  degree-edges [] = refl
  degree-edges (e ∷ F) =
      dite (touches? G p e) (λ h. degree_touch e F h ∙ ap suc (degree-edges F) ∙ sym (ap length (edges_touch e F h)))
      (λ n. degree_away e F n ∙ degree-edges F ∙ sym (ap length (edges_away e F n)))

  pub edges_in : (F : List E) (e : E) → In (edges_at G p F) e ↔ (In F e × Touches G p e)
  unfolding edges_at
  edges_in [] e = (λ m. absurd (not-nil m), λ h. absurd (not-nil h.0))
  edges_in (x ∷ F) e =
      dite (touches? G p x)
      (λ t. subst (λ K. In K e ↔ (In (x ∷ F) e × Touches G p e)) (sym (edges_touch x F t)) (
        λ m. ⊎_elim (λ q. (head q, subst (Touches G p) (sym q) t)) (λ k. let r = (edges_in F e).0 k in (tail r.0, r.1))
            (cases m),
        λ h. ⊎_elim head (λ k. tail ((edges_in F e).1 (k, h.1))) (cases h.0),
      ))
      (λ n. subst (λ K. In K e ↔ (In (x ∷ F) e × Touches G p e)) (sym (edges_away x F n)) (
        λ m. let r = (edges_in F e).0 m in (tail r.0, r.1),
        λ h. ⊎_elim (λ q. absurd (n (subst (Touches G p) q h.1))) (λ k. (edges_in F e).1 (k, h.1)) (cases h.0),
      ))

  pub degree-zero : (F : List E) → ((e : E) → In F e → ¬ Touches G p e) → degree G p F ≡ 0
  unfolding degree
  degree-zero [] h = refl
  degree-zero (e ∷ F) h = degree_away e F (h e (head refl)) ∙ degree-zero F (λ f m. h f (tail m))

  pub degree_pos : (F : List E) (e : E) → In F e → Touches G p e → 1 ≤ degree G p F
  degree_pos F e m h = omega (arith, degree-edges F, member_length ((edges_in F e).1 (m, h)))

  pub degree-edge : (F : List E) → 1 ≤ degree G p F → (e : E) × In F e × Touches G p e
  degree-edge F h =
      let r = first_member (edges_at G p F) (omega (arith, degree-edges F)) in
      let k = (edges_in F r.0).0 r.1 in
      (r.0, k.0, k.1)

  -- A vertex with as many edges as there are is an end of every edge.
  degree-most : (F : List E) → degree G p F ≤ length F
  unfolding degree
  degree-most [] = omega arith
  degree-most (e ∷ F) =
      dite (touches? G p e) (λ h. omega (arith, degree_touch e F h, degree-most F)) (λ n. omega (arith, degree_away e F n, degree-most F))

  pub degree_all : (F : List E) → length F ≤ degree G p F → (e : E) → In F e → Touches G p e
  degree_all [] h e m = absurd (not-nil m)
  degree_all (x ∷ F) h e m =
      dite (touches? G p x)
      (λ t. ⊎_elim (λ q. subst (Touches G p) (sym q) t) (degree_all F (omega (arith, degree_touch x F t)) e) (cases m))
      (λ n. absurd (omega (arith, degree_away x F n, degree-most F)))

-- The degrees of all ends add up to twice the number of edges.
pub degree-sum :
    {P E : Type 0} (G : Graph P E) (ps : List P) (F : List E) → Distinct ps
    → ((e : E) → In F e → Memᴰ (G.lo e) ps × Memᴰ (G.hi e) ps) → ((e : E) → In F e → ¬ (G.lo e ≡ G.hi e))
    → total (λ p. degree G p F) ps ≡ 2 * length F
unfolding degree
degree-sum G ps [] d ends loops = omega (arith, total_const 0 ps)
degree-sum {P} G ps (e ∷ F) d ends loops =
    let here = head refl in
    let a = G.lo e in
    let b = G.hi e in
    let r = take_out ps d a (ends e here).0 in
    let q = take_out r.list r.distinct b (⊎_elim (λ p. absurd (loops e here (sym p))) (λ m. m) (r.onto b (ends e here).1)) in
    let f : P → ℕ = λ p. degree G p F in
    let g : P → ℕ = λ p. degree G p (e ∷ F) in
    let same : total g q.list ≡ total f q.list =
    total_same_terms g f q.list (λ p m. degree_away G p e F (⊎_elim (r.from p (q.from p m).0).1 (q.from p m).1)) in
    omega (
      arith,
      degree-sum G ps F d (λ x m. ends x (tail m)) (λ x m. loops x (tail m)),
      r.sum f,
      r.sum g,
      q.sum f,
      q.sum g,
      same,
      degree_touch G a e F (inl refl),
      degree_touch G b e F (inr refl),
    )

module _ {P E : Type 0} (G : Graph P E) (ps : List P) (F : List E) (d : Distinct ps) (t : Tree G ps F) where
  -- In a tree with two vertices or more each is the end of an edge.
  pub tree-degree_pos : 2 ≤ length ps → (p : P) → Memᴰ p ps → 1 ≤ degree G p F
  tree-degree_pos h p m = let q = other ps d h in step (t.spans p q.0 m q.1)
    where
      other : (ps : List P) → Distinct ps → 2 ≤ length ps → (q : P) × Memᴰ q ps × ¬ (p ≡ q)
      other [] d h = absurd (omega arith)
      other (a ∷ []) d h = absurd (omega arith)
      other (a ∷ b ∷ l) d h =
          dite (G.dec p a) (λ e. (b, tail (head refl), λ f. d.0 b (head refl) (sym e ∙ f)))
          (λ n. (a, head refl, n))

      step : Conn G (In F) (other ps d h).0 p → 1 ≤ degree G p F
      step (stop e) = absurd ((other ps d h).2 e)
      step (fwd e k q c) = degree_pos G p F e k (inl q)
      step (bwd e k q c) = degree_pos G p F e k (inr q)

  pub tree-degree-sum : total (λ p. degree G p F) ps ≡ 2 * length F
  tree-degree-sum = degree-sum G ps F d t.ends (forest-ends G F t.forest)

  -- If the vertices of the tree are the members of `qs` and of `ts`, and those of `ts` have degree 3 or more, there are at
  -- least two more of the first kind.
  module _
      (qs ts : List P) (dp : Distinct qs) (dt : Distinct ts) (apart : (p : P) → Memᴰ p qs → ¬ Memᴰ p ts)
      (union : (p : P) → Memᴰ p ps ↔ (Memᴰ p qs ⊎ Memᴰ p ts)) (busy : (p : P) → Memᴰ p ts → 3 ≤ degree G p F) where
    pub branches : 2 ≤ length ps → length ts + 2 ≤ length qs
    branches h =
        let f : P → ℕ = λ p. degree G p F in
        omega (
          arith,
          tree-degree-sum,
          tree-count G ps F d t (omega arith),
          total-union f qs ts ps dp dt d apart union,
          total-union (λ _. 1) qs ts ps dp dt d apart union,
          total_const 1 ps,
          total_const 1 qs,
          total_const 1 ts,
          total-least f 3 ts busy,
          total-least f 1 qs (λ p m. tree-degree_pos h p ((union p).1 (inl m))),
        )

    -- Without a condition on the number of vertices: where there is one of degree 3, there are two and more.
    pub branches_some : 1 ≤ length ts → length ts + 2 ≤ length qs
    branches_some h =
        let r = first_member ts h in
        let e = degree-edge G r.0 F (omega (arith, busy r.0 r.1)) in
        branches (omega (arith, member_length e.1, tree-count G ps F d t (member_length ((union r.0).1 (inr r.1)))))
