-- The first keys of a list, one more each time: which they are, and that the next of a sorted list comes after them.
use mathlib.Core.Path.{◌≡◌, refl}
use mathlib.Core.Logic.{◌↔◌, ◌⊎◌, inl, inr, ⊎_elim}
use mathlib.Core.List.Memᴰ.{cases_cons as cases}
use mathlib.Core.List.Memᴰ.{head}
use mathlib.Core.List.Memᴰ.{tail}
use mathlib.Core.List.{List, [], ◌∷◌, ◌++◌, Memᴰ}
use mathlib.Core.List.Memᴰ
use mathlib.Core.List.Memᴰ.{not-nil}
use Prim.Native.Nat.{ℕ, zero, suc, ◌+◌, ◌<◌}
use native.Mathlib.Numerals.{add-one}
use native.Mathlib.Omega.{arith}
use lib.ListN.{length, take, get_or}
use lib.Seq.{take-suc}
use Rattle.arrays.specs.Order.{Sorted}

-- An element of a list is one of its members.
pub first_at : (l : List ℕ) (i : ℕ) → i < length l → Memᴰ (get_or l i 0) l
first_at [] i h = absurd (omega arith)
first_at (a ∷ l) zero h = head refl
first_at (a ∷ l) (suc i) h = tail (first_at l i (omega arith))

-- In a sorted list it comes after those before it.
pub first-before : (R : ℕ → ℕ → Type 0) (l : List ℕ) (i : ℕ) → i < length l → Sorted R l → (k : ℕ) → Memᴰ k (take i l) → R k (get_or l i 0)
first-before R [] i h s k f = absurd (omega arith)
first-before R (a ∷ l) zero h s k f = absurd (not-nil f)
first-before R (a ∷ l) (suc i) h s k f =
    ⊎_elim (λ p. rw p (s.0 (get_or l i 0) (first_at l i (omega arith)))) (first-before R l i (omega arith) s.1 k) (cases f)

-- The first i + 1 are the first i and the next.
pub first_more :
    (l : List ℕ) (i : ℕ) → i < length l → (k : ℕ) → Memᴰ k (take (i + 1) l) ↔ ((k ≡ get_or l i 0) ⊎ Memᴰ k (take i l))
first_more l i h k =
    let e : take (i + 1) l ≡ take i l ++ (get_or l i 0 ∷ []) = rw add-one (take-suc l i 0 h) in (
      λ f. ⊎_elim inr (λ g. ⊎_elim inl (λ z. absurd (not-nil z)) (cases g)) (Memᴰ.append_cases (take i l) (rw e at f)),
      λ f. rw e (⊎_elim (λ p. Memᴰ.append_right (take i l) (head p)) (λ g. Memᴰ.append_left (get_or l i 0 ∷ []) g) f),
    )
