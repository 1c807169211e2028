-- What Kruskal's method yields on any list of edges: a part of it, a forest, that connects all that the list connects,
-- sorted if the list is, and no heavier. Each is one recursion along the list, by the two outcomes of the test.
use mathlib.Core.Path.{◌≡◌, refl}
use mathlib.Core.Logic.{◌↔◌, ◌⊎◌, inl, inr, ⊎_elim}
use mathlib.Core.List.Memᴰ.{cases_cons as cases}
use mathlib.Core.List.Memᴰ.{head}
use mathlib.Core.List.Memᴰ.{not-nil}
use mathlib.Core.List.Memᴰ.{tail}
use mathlib.Core.List.{List, [], ◌∷◌}
use Prim.Native.Nat.{ℕ, ◌+◌, ◌≤◌}
use native.Mathlib.Omega.{arith}
use Rattle.spanning.specs.Graph.{Graph, Conn, In, Forest, total}
use Rattle.spanning.specs.Kruskal.{kruskal}
use Rattle.arrays.specs.Order.{Sorted}
use Rattle.spanning.proofs.Conn.{conn_edge, conn_mono, conn_bind}
use Rattle.spanning.proofs.Component.{kruskal_cases}
use Rattle.arrays.proofs.Members.{mem_shift}
use Rattle.spanning.proofs.Forest.{Joins, forest-joins}

module _ {P E : Type 0} (G : Graph P E) where
  pub kruskal_in : (F es : List E) (e : E) → In (kruskal G F es) e → In es e
  unfolding kruskal
  kruskal_in F [] e = λ m. m
  kruskal_in F (x ∷ es) e =
      kruskal_cases G F x es (λ K. In K e → In (x ∷ es) e) (λ _ m. tail (kruskal_in F es e m))
      (λ _ m. ⊎_elim head (λ k. tail (kruskal_in (x ∷ F) es e k)) (cases m))

  -- Each edge joins two components of the base and of the edges kept before it.
  pub kruskal-joins : (F es : List E) → Joins G F (kruskal G F es)
  unfolding kruskal
  kruskal-joins F [] = tt
  kruskal-joins F (x ∷ es) = kruskal_cases G F x es (Joins G F) (λ _. kruskal-joins F es) (λ n. (n, kruskal-joins (x ∷ F) es))

  pub kruskal-forest : (es : List E) → Forest G (kruskal G [] es)
  kruskal-forest es = (forest-joins G (kruskal G [] es)).1 (kruskal-joins [] es)

  -- The base and the kept edges connect the ends of each edge of the list.
  pub kruskal-spans :
      (F es : List E) (e : E) → In es e → Conn G (λ f. In F f ⊎ In (kruskal G F es) f) (G.hi e) (G.lo e)
  kruskal-spans F [] e m = absurd (not-nil m)
  kruskal-spans F (x ∷ es) e m =
      kruskal_cases G F x es (λ K. Conn G (λ f. In F f ⊎ In K f) (G.hi e) (G.lo e))
      (λ c. ⊎_elim (λ p. ends p (conn_mono (λ f k. inl k) c)) (kruskal-spans F es e) (cases m))
      (λ _. ⊎_elim (λ p. ends p (conn_edge x (inr (head refl))))
      (λ k. conn_mono (λ f. (mem_shift x f F (kruskal G (x ∷ F) es)).0) (kruskal-spans (x ∷ F) es e k))
      (cases m))
    where
      ends : {S : E → Type 0} → e ≡ x → Conn G S (G.hi x) (G.lo x) → Conn G S (G.hi e) (G.lo e)
      ends p c = rw p c

  -- The kept edges connect what the list connects.
  pub kruskal_connects : (es : List E) {u v : P} → Conn G (In (kruskal G [] es)) v u ↔ Conn G (In es) v u
  kruskal_connects es = (
    conn_mono (λ e m. kruskal_in [] es e m),
    conn_bind (λ e m. conn_mono (λ f. ⊎_elim (λ k. absurd (not-nil k)) (λ k. k)) (kruskal-spans [] es e m)),
  )

  pub kruskal-sorted : (before : E → E → Type 0) (F es : List E) → Sorted before es → Sorted before (kruskal G F es)
  unfolding kruskal
  kruskal-sorted before F [] s = tt
  kruskal-sorted before F (x ∷ es) s =
      kruskal_cases G F x es (Sorted before) (λ _. kruskal-sorted before F es s.1)
      (λ _. (λ f m. s.0 f (kruskal_in (x ∷ F) es f m), kruskal-sorted before (x ∷ F) es s.1))

  pub kruskal-total : (w : E → ℕ) (F es : List E) → total w (kruskal G F es) ≤ total w es
  unfolding kruskal total
  kruskal-total w F [] = omega arith
  kruskal-total w F (x ∷ es) =
      kruskal_cases G F x es (λ K. total w K ≤ w x + total w es) (λ _. omega (arith, kruskal-total w F es))
      (λ _. omega (arith, kruskal-total w (x ∷ F) es))
