-- A forest whose edges a list B connects is no longer than B (L2). No vertices are counted: the rank of A over a base is the
-- length of Kruskal's result. A base that connects more gives less rank, one more edge in the base lowers the rank by one at
-- most, and over a base that connects all of A the rank is 0.
use mathlib.Core.Path.{◌≡◌, refl, ap}
use mathlib.Core.Logic.{⊎_elim}
use mathlib.Core.List.Memᴰ.{cases_cons as cases}
use mathlib.Core.List.Memᴰ.{head}
use mathlib.Core.List.Memᴰ.{tail}
use mathlib.Core.List.{List, [], ◌∷◌, ◌++◌, append-nil}
use Prim.Native.Nat.{suc, ◌+◌, ◌≤◌}
use native.Mathlib.Omega.{arith}
use lib.ListN.{length}
use Rattle.spanning.specs.Graph.{Graph, Conn, In, Forest}
use Rattle.spanning.specs.Kruskal.{kruskal}
use Rattle.spanning.proofs.Conn.{conn_edge, conn_mono, conn_bind}
use Rattle.spanning.proofs.Component.{kruskal_cases}
use Rattle.spanning.proofs.Forest.{Joins, forest-joins, exchange}

-- F' connects the ends of every edge of F.
abbrev pub Spans : {P E : Type 0} → Graph P E → List E → List E → Type 0
Spans {E = E} G F' F = (e : E) → In F e → Conn G (In F') (G.hi e) (G.lo e)

module _ {P E : Type 0} (G : Graph P E) where
  spans_more : (F F' : List E) (x : E) → Spans G F' F → Conn G (In F') (G.hi x) (G.lo x) → Spans G F' (x ∷ F)
  spans_more F F' x h c e m = ⊎_elim (λ p. rw p c) (h e) (cases m)

  spans-later : (F F' : List E) (x : E) → Spans G F' F → Spans G (x ∷ F') F
  spans-later F F' x h e m = conn_mono (λ f k. tail k) (h e m)

  spans-here : (F F' : List E) (x : E) → Spans G F' F → Spans G (x ∷ F') (x ∷ F)
  spans-here F F' x h = spans_more F (x ∷ F') x (spans-later F F' x h) (conn_edge x (head refl))

  rank_less : (F F' A : List E) → Spans G F' F → length (kruskal G F' A) ≤ length (kruskal G F A)
  unfolding kruskal
  rank_less F F' [] h = omega arith
  rank_less F F' (x ∷ A) h =
      kruskal_cases G F x A (λ K. length (kruskal G F' (x ∷ A)) ≤ length K)
      (λ c. kruskal_cases G F' x A (λ K. length K ≤ length (kruskal G F A)) (λ _. rank_less F F' A h) (λ n. absurd (n (conn_bind h c))))
      (λ _. kruskal_cases G F' x A (λ K. length K ≤ suc (length (kruskal G (x ∷ F) A)))
      (λ c. omega (arith, rank_less (x ∷ F) F' A (spans_more F F' x h c)))
      (λ _. omega (arith, rank_less (x ∷ F) (x ∷ F') A (spans-here F F' x h))))

  rank_step : (F : List E) (b : E) (A : List E) → length (kruskal G F A) ≤ suc (length (kruskal G (b ∷ F) A))
  unfolding kruskal
  rank_step F b [] = omega arith
  rank_step F b (x ∷ A) =
      kruskal_cases G F x A (λ K. length K ≤ suc (length (kruskal G (b ∷ F) (x ∷ A))))
      (λ c. kruskal_cases G (b ∷ F) x A (λ K. length (kruskal G F A) ≤ suc (length K)) (λ _. rank_step F b A)
      (λ n. absurd (n (conn_mono (λ f m. tail m) c))))
      (λ n. kruskal_cases G (b ∷ F) x A (λ K. suc (length (kruskal G (x ∷ F) A)) ≤ suc (length K))
      (λ c. omega (arith, rank_less (b ∷ F) (x ∷ F) A (spans_more F (x ∷ F) b (λ e m. conn_edge e (tail m)) (exchange F b x n c))))
      (λ _. omega (arith, rank_step (x ∷ F) b A, rank_less (x ∷ b ∷ F) (b ∷ x ∷ F) A swap)))
    where
      swap : Spans G (b ∷ x ∷ F) (x ∷ b ∷ F)
      swap =
          spans_more (b ∷ F) (b ∷ x ∷ F) x (spans-here F (x ∷ F) b (λ e m. conn_edge e (tail m)))
          (conn_edge x (tail (head refl)))

  rank_base : (F B A : List E) → length (kruskal G F A) ≤ length B + length (kruskal G (B ++ F) A)
  rank_base F [] A = omega arith
  rank_base F (b ∷ B) A = omega (arith, rank_base F B A, rank_step (B ++ F) b A)

  rank_none : (F A : List E) → Spans G F A → kruskal G F A ≡ []
  unfolding kruskal
  rank_none F [] h = refl
  rank_none F (x ∷ A) h =
      kruskal_cases G F x A (λ K. K ≡ []) (λ _. rank_none F A (λ e m. h e (tail m))) (λ n. absurd (n (h x (head refl))))

  -- Kruskal's method keeps every edge of a forest.
  pub kruskal_all : (F A : List E) → Joins G F A → kruskal G F A ≡ A
  unfolding kruskal
  kruskal_all F [] j = refl
  kruskal_all F (x ∷ A) j = kruskal_cases G F x A (λ K. K ≡ x ∷ A) (λ c. absurd (j.0 c)) (λ _. ap (λ K. x ∷ K) (kruskal_all (x ∷ F) A j.1))

  pub rank : (A B : List E) → Forest G A → Spans G B A → length A ≤ length B
  rank A B f h =
      omega (
        arith,
        rank_base [] B A,
        ap length (kruskal_all [] A ((forest-joins G A).0 f)),
        ap length (rank_none (B ++ []) A (λ e m. rw append-nil (h e m))),
      )
