-- Any list of edges that connects what the sorted edges E₀ connect weighs at least as much as Kruskal's result on E₀ (L6):
-- sorted without its repeats, and with Kruskal's method run over it, it is a spanning forest, and none of the two made it heavier.
use mathlib.Core.Path.{◌≡◌, sym, ◌∙◌, subst}
use mathlib.Core.Logic.{◌⊎◌, inl, inr, ⊎_elim}
use mathlib.Core.List.Memᴰ.{cases_cons as cases}
use mathlib.Core.List.Memᴰ.{head}
use mathlib.Core.List.Memᴰ.{not-nil}
use mathlib.Core.List.Memᴰ.{tail}
use mathlib.Core.List.{List, [], ◌∷◌}
use Prim.Native.Nat.{ℕ, ◌≤◌}
use native.Mathlib.Omega.{arith}
use Rattle.spanning.specs.Graph.{Graph, In, total}
use Rattle.spanning.specs.Kruskal.{kruskal}
use Rattle.arrays.specs.Order.{StrictTotal, Sorted}
use Rattle.spanning.proofs.Conn.{conn_mono}
use Rattle.spanning.proofs.Kruskal.{kruskal_in, kruskal-forest, kruskal_connects, kruskal-sorted, kruskal-total}
use Rattle.spanning.proofs.Rank.{Spans}
use Rattle.spanning.proofs.Least.{least}

-- The members of C as a sorted list, no heavier than C.
pub record Sorting {E : Type 0} (before : E → E → Type 0) (C : List E) : Type 0 where
  pub list : List E
  pub sorted : Sorted before list
  pub from : (e : E) → In list e → In C e
  pub onto : (e : E) → In C e → In list e
  pub light : (w : E → ℕ) → total w list ≤ total w C

module _ {E : Type 0} {before : E → E → Type 0} (order : StrictTotal before) where
  -- An element is put in its place in a sorted list, or dropped if it is there.
  put : (a : E) (l : List E) → Sorted before l → Sorting before (a ∷ l)
  unfolding total
  put a [] s =
      record { list = a ∷ []; sorted = (λ f m. absurd (not-nil m), tt); from = λ e m. m; onto = λ e m. m; light = λ w. omega arith }
  put a (b ∷ l) s = place (order.compare a b) (put a l s.1)
    where
      place : before a b ⊎ ((a ≡ b) ⊎ before b a) → Sorting before (a ∷ l) → Sorting before (a ∷ b ∷ l)
      place (inl h) r =
          record {
            list = a ∷ b ∷ l;
            sorted =
                (λ f m. ⊎_elim (λ p. subst (before a) (sym p) h) (λ k. order.trans a b f h (s.0 f k)) (cases m), s);
            from = λ e m. m;
            onto = λ e m. m;
            light = λ w. omega arith;
          }
      place (inr (inl q)) r =
          record {
            list = b ∷ l;
            sorted = s;
            from = λ e m. tail m;
            onto = λ e m. ⊎_elim (λ p. head (p ∙ q)) (λ k. k) (cases m);
            light = λ w. omega arith;
          }
      place (inr (inr h)) r =
          record {
            list = b ∷ r.list;
            sorted =
                (λ f m. ⊎_elim (λ p. subst (before b) (sym p) h) (s.0 f) (cases (r.from f m)), r.sorted);
            from = λ e m.
                ⊎_elim (λ p. tail (head p))
                (λ k. ⊎_elim head (λ j. tail (tail j)) (cases (r.from e k)))
                (cases m);
            onto = λ e m.
                ⊎_elim (λ p. tail (r.onto e (head p)))
                (λ k. ⊎_elim head (λ j. tail (r.onto e (tail j))) (cases k))
                (cases m);
            light = λ w. let h = r.light w in omega arith;
          }

  pub sort : (C : List E) → Sorting before C
  unfolding total
  sort [] = record { list = []; sorted = tt; from = λ e m. m; onto = λ e m. m; light = λ w. omega arith }
  sort (a ∷ C) =
      let r = sort C in
      let q = put a r.list r.sorted in
      record {
        list = q.list;
        sorted = q.sorted;
        from = λ e m. ⊎_elim head (λ k. tail (r.from e k)) (cases (q.from e m));
        onto = λ e m. q.onto e (⊎_elim head (λ k. tail (r.onto e k)) (cases m));
        light = λ w. omega (arith, r.light w, q.light w);
      }

module _ {P E : Type 0} (G : Graph P E) {before : E → E → Type 0} (order : StrictTotal before) where
  pub cover :
      (w : E → ℕ) → ((e f : E) → before e f → w e ≤ w f) → (E₀ C : List E) → Sorted before E₀
      → ((e : E) → In C e → In E₀ e) → Spans G C E₀ → total w (kruskal G [] E₀) ≤ total w C
  cover w light E₀ C s sub spans =
      let r = sort order C in
      let T = kruskal G [] r.list in
      let h : total w (kruskal G [] E₀) ≤ total w T =
      least G order E₀ T s w light
      (record {
        sorted = kruskal-sorted G before [] r.list r.sorted;
        inside = λ e m. sub e (r.from e (kruskal_in G [] r.list e m));
        forest = kruskal-forest G r.list;
        connects = λ e m. (kruskal_connects G r.list).1 (conn_mono r.onto (spans e m));
      }) in
      omega (arith, h, kruskal-total G w [] r.list, r.light w)
