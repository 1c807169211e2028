-- A sorted list with one member more: the new member stands in its place.
use mathlib.Core.Path.{◌≡◌, sym, subst}
use mathlib.Core.Logic.{◌↔◌, ◌⊎◌, inl, inr, ⊎_elim}
use mathlib.Core.List.Memᴰ.{cases_cons as cases}
use mathlib.Core.List.Memᴰ.{head}
use mathlib.Core.List.Memᴰ.{not-nil}
use mathlib.Core.List.Memᴰ.{tail}
use mathlib.Core.List.{List, [], ◌∷◌}
use Rattle.spanning.specs.Graph.{In}
use Rattle.arrays.specs.Order.{StrictTotal, Sorted}
use Rattle.arrays.proofs.Members.{sorted_ext}

-- The list T is the sorted list S with e in its place.
pub data Inserted {E : Type 0} (before : E → E → Type 0) (e : E) : List E → List E → Type 0 where
  here : {S : List E} → ((f : E) → In S f → before e f) → Inserted before e S (e ∷ S)
  later : {x : E} {S T : List E} → before x e → Inserted before e S T → Inserted before e (x ∷ S) (x ∷ T)

module _ {E : Type 0} {before : E → E → Type 0} (order : StrictTotal before) where
  -- e stands in S, or in some sorted list that is S with e in its place.
  record Fresh (e : E) (S : List E) : Type 0 where
    list : List E
    place : Inserted before e S list
    sorted : Sorted before list
    members : (f : E) → In list f ↔ ((f ≡ e) ⊎ In S f)

  fresh : (e : E) (S : List E) → Sorted before S → In S e ⊎ Fresh e S
  fresh e [] s =
      inr (record {
        list = e ∷ [];
        place = here (λ f m. absurd (not-nil m));
        sorted = (λ f m. absurd (not-nil m), tt);
        members = λ f. (λ m. ⊎_elim inl inr (cases m), ⊎_elim head (λ m. absurd (not-nil m)));
      })
  fresh e (x ∷ S) s =
      ⊎_elim (λ b. inr (first b))
      (⊎_elim (λ p. inl (head p)) (λ b. ⊎_elim (λ m. inl (tail m)) (λ r. inr (next b r)) (fresh e S s.1)))
      (order.compare e x)
    where
      first : before e x → Fresh e (x ∷ S)
      first b =
          record {
            list = e ∷ x ∷ S;
            place = here before_all;
            sorted = (before_all, s);
            members = λ f. (λ m. ⊎_elim inl inr (cases m), ⊎_elim head tail);
          }
        where
          before_all : (f : E) → In (x ∷ S) f → before e f
          before_all f m = ⊎_elim (λ p. subst (before e) (sym p) b) (λ k. order.trans e x f b (s.0 f k)) (cases m)

      next : before x e → Fresh e S → Fresh e (x ∷ S)
      next b r =
          record {
            list = x ∷ r.list;
            place = later b r.place;
            sorted = (λ f m. ⊎_elim (λ p. subst (before x) (sym p) b) (s.0 f) ((r.members f).0 m), r.sorted);
            members = λ f. (
              λ m. ⊎_elim (λ p. inr (head p)) (λ k. ⊎_elim inl (λ j. inr (tail j)) ((r.members f).0 k)) (cases m),
              ⊎_elim (λ p. tail ((r.members f).1 (inl p))) (λ m. ⊎_elim head (λ k. tail ((r.members f).1 (inr k))) (cases m)),
            );
          }

  -- A sorted list with the members of S and e is S itself, or S with e in its place.
  pub inserted :
      (e : E) (S T : List E) → Sorted before S → Sorted before T → ((f : E) → In T f ↔ ((f ≡ e) ⊎ In S f))
      → (In S e × (T ≡ S)) ⊎ Inserted before e S T
  inserted e S T s t h =
      ⊎_elim
      (λ m. inl (m, sorted_ext order T S t s (λ f k. ⊎_elim (λ p. rw p m) (λ j. j) ((h f).0 k)) (λ f k. (h f).1 (inr k))))
      (λ r. inr (subst (Inserted before e S)
      (sorted_ext order r.list T r.sorted t (λ f k. (h f).1 ((r.members f).0 k)) (λ f k. (r.members f).1 ((h f).0 k)))
      r.place))
      (fresh e S s)
