-- Texts put one behind the other: those of the first items, then one more; and what stands for each number of a list.
use mathlib.Core.Path.{◌≡◌, refl, sym, ap, ◌∙◌, subst}
use mathlib.Core.Bool.{Bool, true, false}
use mathlib.Core.List.{List, [], ◌∷◌, ◌++◌, append_assoc, append-nil}
use Prim.Native.Nat.{ℕ, ◌+◌, ◌*◌, ◌≤◌, ◌<◌}
use native.Mathlib.Nat.{mul-suc}
use native.Mathlib.Numerals.{add-one}
use native.Mathlib.Omega.{arith}
use lib.ListN.{length, take, get_or, length-append}
use lib.Seq.{take-suc, take-length, length-take-le}
use Rattle.arrays.specs.Set.{passing}
use Rattle.arrays.specs.Paste.{Pasted, each}
use Rattle.arrays.proofs.paste.Parts.{pasted_none, pasted_then, pasted_same}

-- The texts of the first i items stand from place `at` on, up to the place `next`, at most w bytes each.
pub record PutFirst (text : ℕ → List ℕ) (w n : ℕ) (l m : List ℕ) (at next i : ℕ) : Type 0 where
  pub within : i ≤ n
  pub put : Pasted (text i) l m at next
  pub same : length m ≡ length l
  pub most : next ≤ at + w * i

module _ (text : ℕ → List ℕ) (w n : ℕ) (l : List ℕ) (at : ℕ) where
  pub first_none : text 0 ≡ [] → PutFirst text w n l l at at 0
  first_none e = record { within = omega arith; put = first; same = refl; most = omega arith }
    where
      zero_more : at + 0 ≡ at
      zero_more = omega arith

      first : Pasted (text 0) l l at at
      first = pasted_same (sym e) (subst (λ (k : ℕ). Pasted [] l l at k) zero_more (pasted_none l at))

  pub first_more : (line m m' : List ℕ) (next next' i : ℕ) → PutFirst text w n l m at next i → i < n → text (i + 1) ≡ text i ++ line → next ≤ length m
      → Pasted line m m' next next' → next' ≤ next + w → length m' ≡ length m → PutFirst text w n l m' at next' (i + 1)
  first_more line m m' next next' i p h e fits q few size =
      record {
        within = omega arith;
        put = pasted_same (sym e) (pasted_then p.put (omega (arith, p.same)) q);
        same = size ∙ p.same;
        most = omega (arith, p.most, mul-suc w i, ap (λ (k : ℕ). w * k) (add-one i));
      }

-- The loops' ends: every item is written.
pub first_end : (text : ℕ → List ℕ) (w n : ℕ) (l m : List ℕ) (at next i : ℕ) → PutFirst text w n l m at next i → n ≤ i
    → Pasted (text n) l m at next × (next ≤ at + w * n)
first_end text w n l m at next i p h =
    let e : i ≡ n = omega (arith, p.within) in
    (pasted_same (ap text e) p.put, omega (arith, p.most, ap (λ (k : ℕ). w * k) e))

-- What f makes of each of the first i items of a list.
abbrev pub each_to : {A : Type 0} → (A → List ℕ) → List A → ℕ → List ℕ
each_to f l i = each f (take i l)

pub each_snoc : {A : Type 0} (f : A → List ℕ) (l : List A) (k : A) → each f (l ++ (k ∷ [])) ≡ each f l ++ f k
unfolding each
each_snoc f [] k = append-nil (f k)
each_snoc f (a ∷ l) k = ap (λ (t : List ℕ). f a ++ t) (each_snoc f l k) ∙ sym (append_assoc (f a) (each f l) (f k))

-- One number more of a list.
pub one_more : (a : List ℕ) (i : ℕ) → i < length a → take (i + 1) a ≡ take i a ++ (get_or a i 0 ∷ [])
one_more a i h = ap (λ (k : ℕ). take k a) (add-one i) ∙ take-suc a i 0 h

pub each_none : {A : Type 0} (f : A → List ℕ) (l : List A) → each_to f l 0 ≡ []
unfolding each
each_none f l = refl

pub each_more : (f : ℕ → List ℕ) (l : List ℕ) (i : ℕ) → i < length l → each_to f l (i + 1) ≡ each_to f l i ++ f (get_or l i 0)
each_more f l i h = ap (each f) (one_more l i h) ∙ each_snoc f (take i l) (get_or l i 0)

pub each_all : (f : ℕ → List ℕ) (l : List ℕ) → each_to f l (length l) ≡ each f l
each_all f l = ap (each f) (take-length l)

pub each-length : (f : ℕ → List ℕ) (w : ℕ) → ((k : ℕ) → length (f k) ≡ w) → (l : List ℕ) → length (each f l) ≡ w * length l
unfolding each
each-length f w h [] = omega arith
each-length f w h (k ∷ l) = omega (arith, length-append (f k) (each f l), h k, each-length f w h l)

-- The texts of the first numbers of a list, put one behind the other.
module _ (f : ℕ → List ℕ) (w n : ℕ) (numbers l : List ℕ) (at : ℕ) where
  pub each-first_none : PutFirst (each_to f numbers) w n l l at at 0
  each-first_none = first_none (each_to f numbers) w n l at (each_none f numbers)

  pub each-first_more : {m m' : List ℕ} {next next' i : ℕ} → PutFirst (each_to f numbers) w n l m at next i → i < n → n ≤ length numbers → next ≤ length m
      → Pasted (f (get_or numbers i 0)) m m' next next' → next' ≤ next + w → length m' ≡ length m → PutFirst (each_to f numbers) w n l m' at next' (i + 1)
  each-first_more {m} {m'} {next} {next'} {i} p h k fits q few size =
      first_more (each_to f numbers) w n l at (f (get_or numbers i 0)) m m' next next' i p h (each_more f numbers i (omega arith)) fits q few size

  pub each-first_end : {m : List ℕ} {next i : ℕ} → PutFirst (each_to f numbers) w n l m at next i → n ≤ i → Pasted (each_to f numbers n) l m at next
  each-first_end {m} {next} {i} p h = (first_end (each_to f numbers) w n l m at next i p h).0

-- Where each text has w bytes, the place behind those of the first n numbers.
pub each_next : (f : ℕ → List ℕ) (w : ℕ) → ((k : ℕ) → length (f k) ≡ w) → (numbers : List ℕ) (n : ℕ) → n ≤ length numbers
    → {l m : List ℕ} {at r : ℕ} → Pasted (each_to f numbers n) l m at r → r ≡ at + w * n
each_next f w h numbers n k {l} {m} {at} p =
    p.next ∙ ap (λ (z : ℕ). at + z) (each-length f w h (take n numbers) ∙ ap (λ (z : ℕ). w * z) (length-take-le n numbers k))

-- Each number that passes a test, and nothing for the others.
pub each-passing : (f : ℕ → Bool) (l : List ℕ) → each (λ k. passing f (k ∷ [])) l ≡ passing f l
unfolding each passing
each-passing f [] = refl
each-passing f (k ∷ l) = go (f k) refl (each-passing f l)
  where
    go : (b : Bool) → f k ≡ b → each (λ j. passing f (j ∷ [])) l ≡ passing f l → each (λ j. passing f (j ∷ [])) (k ∷ l) ≡ passing f (k ∷ l)
    go true e rest = rw e (ap (λ (m : List ℕ). k ∷ m) rest)
    go false e rest = rw e rest
