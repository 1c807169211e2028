-- The tests of a set as the library's tests of a list: some element, every element, the first place of one, each beside the next.
use mathlib.Core.Path.{◌≡◌, refl, sym, ap, ◌∙◌, subst}
use mathlib.Core.Bool.{Bool, true, false, ◌&&◌, ◌||◌}
use mathlib.Core.List.{List, [], ◌∷◌}
use Prim.Native.Nat.{ℕ, zero, suc, ◌+◌, ◌<◌}
use native.Mathlib.Decide.{ℕ_discrete}
use native.Mathlib.Numerals.{add-one}
use native.Mathlib.Omega.{arith}
use lib.Dec.{ltb, eqb}
use lib.ListN.{length, get_or}
use Rattle.std.specs.List.{list_any, AllWithin, HoldsAt, IsAllAdjacentAnswer, AllAdjacentBelow}
use Rattle.std.specs.Bool.{MatchBool}
use Rattle.arrays.specs.Test.{if}
use Rattle.arrays.specs.Set.{tie, all, has, rising}
use Rattle.arrays.specs.Array.{all_zero, index_of}
use Rattle.sorted.proofs.Part.{if_true, if_false, tie_same, tie_other}
use borrow.Author.Tests.{eq-eqb, ne_eqb}

step_down : (t r : Bool) → false ≡ r → false ≡ t && r
step_down true r f = f
step_down false r f = refl

-- Neither of two numbers is less exactly where they are equal.
tie_is : (k b : ℕ) → tie ltb k b ≡ eqb b k
tie_is k b = go (ℕ_discrete b k)
  where
    go : Dec (b ≡ k) → tie ltb k b ≡ eqb b k
    go (yes e) = tie_same k b e ∙ sym (eq-eqb b k e)
    go (no n) = tie_other k b n ∙ sym (ne_eqb b k n)

if_any : (t a b : Bool) → a ≡ b → if t (λ _. true) (λ _. a) ≡ (t || b)
if_any true a b e = refl
if_any false a b e = e

pub has_any : (k : ℕ) (l : List ℕ) → has ltb k l ≡ list_any (λ y. eqb y k) l
unfolding has
has_any k [] = refl
has_any k (b ∷ l) = ap (λ (t : Bool). if t (λ _. true) (λ _. has ltb k l)) (tie_is k b) ∙ if_any (eqb b k) _ _ (has_any k l)

passes : (f : ℕ → Bool) (l : List ℕ) → AllWithin (λ x. f x ≡ true) l 0 (length l) → true ≡ all f l
unfolding all
passes f [] p = refl
passes f (b ∷ l) p = passes f l (λ k d i h. p (suc k) d (omega arith) (omega arith)) ∙ ap (λ (t : Bool). t && all f l) (sym (p 0 0 (omega arith) (omega arith)))

fails : (f : ℕ → Bool) (l : List ℕ) (k : ℕ) → k < length l → HoldsAt (λ x. f x ≡ false) l k → false ≡ all f l
unfolding all
fails f [] k h p = absurd (omega arith)
fails f (b ∷ l) zero h p = ap (λ (t : Bool). t && all f l) (sym (p 0))
fails f (b ∷ l) (suc k) h p = step_down (f b) (all f l) (fails f l k (omega arith) p)

-- Every element passes a test, or one does not.
pub all_cases : (f : ℕ → Bool) (l : List ℕ) (r : Bool)
    → MatchBool r (AllWithin (λ x. f x ≡ true) l 0 (length l)) ((k : ℕ) × (k < length l) × HoldsAt (λ x. f x ≡ false) l k) → r ≡ all f l
all_cases f l true p = passes f l p
all_cases f l false p = fails f l p.0 p.1 p.2

pub zeros_all : (l : List ℕ) → all (λ x. eqb x 0) l ≡ all_zero l
unfolding all all_zero
zeros_all [] = refl
zeros_all (b ∷ l) = ap (λ (t : Bool). eqb b 0 && t) (zeros_all l)

-- The first place of k.
pub at_index : (k b : ℕ) (l : List ℕ) → b ≡ k → index_of k (b ∷ l) ≡ 0
unfolding index_of
at_index k b l e = if_true (tie ltb k b) _ _ (tie_same k b e)

pub past_index : (k b : ℕ) (l : List ℕ) → (b ≡ k → ⊥) → index_of k (b ∷ l) ≡ index_of k l + 1
unfolding index_of
past_index k b l n = if_false (tie ltb k b) _ _ (tie_other k b n) ∙ sym (add-one (index_of k l))

pub no_index : (k : ℕ) → index_of k [] ≡ 0
unfolding index_of
no_index k = refl

-- Each element beside the next.
up : (k : ℕ) → suc k + 1 ≡ suc (k + 1)
up k = omega arith

ups : (l : List ℕ) → AllAdjacentBelow (λ x y. true ≡ ltb x y) l (length l) → true ≡ rising ltb l
unfolding rising
ups [] p = refl
ups (a ∷ []) p = refl
ups (a ∷ b ∷ l) p =
    ups (b ∷ l) (λ k d h. subst (λ (j : ℕ). true ≡ ltb (get_or (b ∷ l) k d) (get_or (a ∷ b ∷ l) j d)) (up k) (p (suc k) d (omega arith)))
    ∙ ap (λ (t : Bool). t && rising ltb (b ∷ l)) (p 0 0 (omega arith))

down : (l : List ℕ) (k : ℕ) → suc k < length l → false ≡ ltb (get_or l k 0) (get_or l (suc k) 0) → false ≡ rising ltb l
unfolding rising
down [] k h e = absurd (omega arith)
down (a ∷ []) k h e = absurd (omega arith)
down (a ∷ b ∷ l) zero h e = ap (λ (t : Bool). t && rising ltb (b ∷ l)) e
down (a ∷ b ∷ l) (suc k) h e = step_down (ltb a b) (rising ltb (b ∷ l)) (down (b ∷ l) k (omega arith) e)

pub rising_pairs : (l : List ℕ) (r : Bool) → IsAllAdjacentAnswer (λ x y b. b ≡ ltb x y) l r → r ≡ rising ltb l
rising_pairs l true p = ups l p
rising_pairs l false p =
    let e : p.0 + 1 ≡ suc p.0 = omega arith in
    down l p.0 (omega (arith, p.1)) (p.2 0 ∙ ap (λ (j : ℕ). ltb (get_or l p.0 0) (get_or l j 0)) e)
