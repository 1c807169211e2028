-- Kruskal's result against every sorted spanning forest T of the same sorted edges (L4): both are equally long, and edge by
-- edge its own comes before T's or is the same. So it is of least weight, and first at the first place of difference.
-- Were T ahead at some place, T's edges so far would be a forest that fewer kept edges connect, against the rank.
use mathlib.Core.Path.{◌≡◌, refl, sym, ap, ap₂, subst}
use mathlib.Core.Logic.{◌⊎◌, inl, inr, ⊎_elim}
use mathlib.Core.List.Memᴰ.{cases_cons as cases}
use mathlib.Core.List.Memᴰ.{head}
use mathlib.Core.List.Memᴰ.{not-nil}
use mathlib.Core.List.Memᴰ.{tail}
use mathlib.Core.List.{List, [], ◌∷◌}
use Prim.Native.Nat.{ℕ, suc, ◌≤◌}
use native.Mathlib.Omega.{arith}
use lib.ListN.{length}
use Rattle.spanning.specs.Graph.{Graph, Conn, In, Forest, total}
use Rattle.spanning.specs.Kruskal.{kruskal}
use Rattle.arrays.specs.Order.{StrictTotal, Sorted, First}
use Rattle.spanning.proofs.Conn.{conn_edge, conn_mono}
use Rattle.spanning.proofs.Component.{kruskal_cases}
use Rattle.arrays.proofs.Members.{mem_shift}
use Rattle.spanning.proofs.Forest.{Grown, Joins, forest_grown, forest-joins}
use Rattle.spanning.proofs.Kruskal.{kruskal_in, kruskal-forest, kruskal_connects, kruskal-sorted}
use Rattle.spanning.proofs.Rank.{Spans, rank}

-- T is a sorted spanning forest of the edges E₀: a forest inside E₀ that connects what E₀ connects.
pub record Spanning {P E : Type 0} (G : Graph P E) (before : E → E → Type 0) (E₀ T : List E) : Type 0 where
  pub sorted : Sorted before T
  pub inside : (e : E) → In T e → In E₀ e
  pub forest : Forest G T
  pub connects : Spans G T E₀

-- Kruskal's result is a sorted spanning forest.
pub kruskal_spanning : {P E : Type 0} (G : Graph P E) {before : E → E → Type 0} (E₀ : List E) → Sorted before E₀ → Spanning G before E₀ (kruskal G [] E₀)
kruskal_spanning G {before} E₀ s =
    record {
      sorted = kruskal-sorted G before [] E₀ s;
      inside = kruskal_in G [] E₀;
      forest = kruskal-forest G E₀;
      connects = λ e m. (kruskal_connects G E₀).1 (conn_edge e m);
    }

-- Two lists of one length, of which the first has at each place the same edge as the second or one before it.
pub data Dominates {E : Type 0} (before : E → E → Type 0) : List E → List E → Type 0 where
  none : Dominates before [] []
  both : {k t : E} {K T : List E} → before k t ⊎ (k ≡ t) → Dominates before K T → Dominates before (k ∷ K) (t ∷ T)

-- Kruskal's method stands before the edges es with the edges F kept, and of T the equally many edges Q are behind.
record Race {P E : Type 0} (G : Graph P E) (before : E → E → Type 0) (F es Q T : List E) : Type 0 where
  level : length F ≡ length Q
  grown : Grown G F
  past : Grown G Q
  joins : Joins G Q T
  rising : Sorted before es
  sorted : Sorted before T
  passed : (q t : E) → In Q q → In T t → before q t
  inside : (f : E) → In Q f ⊎ In T f → In es f ⊎ Conn G (In F) (G.hi f) (G.lo f)
  spans : (f : E) → In F f ⊎ In es f → Conn G (λ g. In Q g ⊎ In T g) (G.hi f) (G.lo f)

module _ {P E : Type 0} {G : Graph P E} {before : E → E → Type 0} where
  skip : {F es Q T : List E} {e : E} → Conn G (In F) (G.hi e) (G.lo e) → Race G before F (e ∷ es) Q T → Race G before F es Q T
  skip c r =
      record {
        level = r.level;
        grown = r.grown;
        past = r.past;
        joins = r.joins;
        rising = r.rising.1;
        sorted = r.sorted;
        passed = r.passed;
        inside = λ f m. ⊎_elim (λ k. ⊎_elim (λ p. inr (rw p c)) inl (cases k)) inr (r.inside f m);
        spans = λ f m. r.spans f (⊎_elim inl (λ k. inr (tail k)) m);
      }

  keep : {F es Q T : List E} {e t : E} → ¬ Conn G (In F) (G.hi e) (G.lo e) → Race G before F (e ∷ es) Q (t ∷ T)
      → Race G before (e ∷ F) es (t ∷ Q) T
  keep {F} {es} {Q} {T} {e} {t} n r =
      record {
        level = ap suc r.level;
        grown = (n, r.grown);
        past = (r.joins.0, r.past);
        joins = r.joins.1;
        rising = r.rising.1;
        sorted = r.sorted.1;
        passed = λ q u m k.
            ⊎_elim (λ p. subst (λ x. before x u) (sym p) (r.sorted.0 u k)) (λ j. r.passed q u j (tail k)) (cases m);
        inside = λ f m.
            ⊎_elim (λ k. ⊎_elim (λ p. inr (conn_edge f (head p))) inl (cases k))
            (λ c. inr (conn_mono (λ g k. tail k) c))
            (r.inside f ((mem_shift t f Q T).0 m));
        spans = λ f m. conn_mono (λ g. (mem_shift t g Q T).1) (r.spans f ((mem_shift e f F es).0 m));
      }

  -- T's next edge cannot be one that Kruskal's method has passed.
  next_not_passed : {F es Q T : List E} {t : E} → Race G before F es Q (t ∷ T) → ((f : E) → In (t ∷ Q) f → ¬ In es f) → ⊥
  next_not_passed {F} {Q = Q} {t = t} r out =
      let h : suc (length Q) ≤ length F = rank G (t ∷ Q) F ((forest_grown G (t ∷ Q)).1 (r.joins.0, r.past))
      (λ f m. ⊎_elim (λ k. absurd (out f m k)) (λ c. c)
      (r.inside f (⊎_elim (λ p. inr (head p)) inl (cases m)))) in
      let l = r.level in
      omega arith

  -- T has an edge left where Kruskal's method keeps one.
  edge-left : {F es Q : List E} {e : E} → ¬ Conn G (In F) (G.hi e) (G.lo e) → Race G before F (e ∷ es) Q [] → ⊥
  edge-left {F} {Q = Q} {e = e} n r =
      let h : suc (length F) ≤ length Q = rank G (e ∷ F) Q ((forest_grown G (e ∷ F)).1 (n, r.grown))
      (λ f m. conn_mono (λ g. ⊎_elim (λ k. k) (λ k. absurd (not-nil k)))
      (r.spans f (⊎_elim (λ p. inr (head p)) inl (cases m)))) in
      let l = r.level in
      omega arith

module _ {P E : Type 0} (G : Graph P E) {before : E → E → Type 0} (order : StrictTotal before) where
  race : (F es Q T : List E) → Race G before F es Q T → Dominates before (kruskal G F es) T
  unfolding kruskal
  race F [] Q [] r = none
  race F [] Q (t ∷ T) r = absurd (next_not_passed r (λ f m. not-nil))
  race F (e ∷ es) Q [] r =
      kruskal_cases G F e es (λ K. Dominates before K []) (λ c. race F es Q [] (skip c r)) (λ n. absurd (edge-left n r))
  race F (e ∷ es) Q (t ∷ T) r =
      kruskal_cases G F e es (λ K. Dominates before K (t ∷ T)) (λ c. race F es Q (t ∷ T) (skip c r))
      (λ n. let rest = race (e ∷ F) es (t ∷ Q) T (keep n r) in
      ⊎_elim (λ b. both (inl b) rest) (⊎_elim (λ p. both (inr p) rest) (λ b. absurd (next_not_passed r (late b)))) (order.compare e t))
    where
      -- The edges of T so far come before e, and so before every edge that is left.
      late : before t e → (f : E) → In (t ∷ Q) f → ¬ In (e ∷ es) f
      late b f m k =
          let l : before f e = ⊎_elim (λ p. subst (λ x. before x e) (sym p) b) (λ j. order.trans f t e (r.passed f t j (head refl)) b)
          (cases m) in
          ⊎_elim (λ p. order.irrefl e (subst (λ x. before x e) p l)) (λ j. order.irrefl f (order.trans f e f l (r.rising.0 f j)))
          (cases k)

  pub dominates : (E₀ T : List E) → Sorted before E₀ → Spanning G before E₀ T → Dominates before (kruskal G [] E₀) T
  dominates E₀ T s t =
      race [] E₀ [] T
      (record {
        level = refl;
        grown = tt;
        past = tt;
        joins = (forest-joins G T).0 t.forest;
        rising = s;
        sorted = t.sorted;
        passed = λ q u m. absurd (not-nil m);
        inside = λ f. ⊎_elim (λ m. absurd (not-nil m)) (λ m. inl (t.inside f m));
        spans = λ f. ⊎_elim (λ m. absurd (not-nil m)) (λ m. conn_mono (λ g k. inr k) (t.connects f m));
      })

module _ {E : Type 0} {before : E → E → Type 0} where
  pub dominates_length : {K T : List E} → Dominates before K T → length K ≡ length T
  dominates_length none = refl
  dominates_length (both p d) = ap suc (dominates_length d)

  pub dominates_total : (w : E → ℕ) → ((e f : E) → before e f → w e ≤ w f) → {K T : List E} → Dominates before K T → total w K ≤ total w T
  unfolding total
  dominates_total w light none = omega arith
  dominates_total w light (both {k = k} {t = t} {K = K} {T = T} p d) =
      let h : w k ≤ w t = ⊎_elim (light k t) (λ q. rw q (omega arith)) p in
      omega (arith, h, dominates_total w light d)

  pub dominates_first : {K T : List E} → Dominates before K T → First before K T
  dominates_first none = tt
  dominates_first (both p d) = ⊎_elim inl (λ q. inr (q, dominates_first d)) p

  pub first_antisym : StrictTotal before → (K T : List E) → First before K T → First before T K → K ≡ T
  first_antisym order [] [] f g = refl
  first_antisym order [] (t ∷ T) f g = absurd g
  first_antisym order (k ∷ K) [] f g = absurd f
  first_antisym order (k ∷ K) (t ∷ T) f g =
      ⊎_elim
      (λ b. ⊎_elim (λ c. absurd (order.irrefl k (order.trans k t k b c))) (λ q. absurd (order.irrefl k (subst (before k) q.0 b))) g)
      (λ p. ⊎_elim (λ c. absurd (order.irrefl t (subst (before t) p.0 c))) (λ q. ap₂ (λ x l. x ∷ l) p.0 (first_antisym order K T p.1 q.1)) g)
      f

module _ {P E : Type 0} (G : Graph P E) {before : E → E → Type 0} (order : StrictTotal before) (E₀ T : List E) (s : Sorted before E₀) where
  pub least : (w : E → ℕ) → ((e f : E) → before e f → w e ≤ w f) → Spanning G before E₀ T → total w (kruskal G [] E₀) ≤ total w T
  least w light t = dominates_total w light (dominates G order E₀ T s t)

  pub least_first : Spanning G before E₀ T → First before (kruskal G [] E₀) T
  least_first t = dominates_first (dominates G order E₀ T s t)

  pub least-length : Spanning G before E₀ T → length (kruskal G [] E₀) ≡ length T
  least-length t = dominates_length (dominates G order E₀ T s t)

  -- The spanning forest that comes first among all is Kruskal's.
  pub unique_first : Spanning G before E₀ T → ((T' : List E) → Spanning G before E₀ T' → First before T T') → T ≡ kruskal G [] E₀
  unique_first t h = first_antisym order T (kruskal G [] E₀) (h (kruskal G [] E₀) (kruskal_spanning G E₀ s)) (least_first t)

  -- The spanning forest of least weight that comes first among those of its weight is Kruskal's.
  pub unique_least :
      (w : E → ℕ) → ((e f : E) → before e f → w e ≤ w f) → Spanning G before E₀ T
      → ((T' : List E) → Spanning G before E₀ T' → total w T ≤ total w T')
      → ((T' : List E) → Spanning G before E₀ T' → total w T' ≡ total w T → First before T T')
      → T ≡ kruskal G [] E₀
  unique_least w light t h first =
      let K = kruskal G [] E₀ in
      let k = kruskal_spanning G E₀ s in
      first_antisym order T K (first K k (omega (arith, h K k, least w light t))) (least_first t)
