-- Tables of a function's first values: their length, entries and members, and one entry set.
use mathlib.Core.Path.{◌≡◌, refl, sym, ap, ap₂, ◌∙◌}
use mathlib.Core.Logic.{⊎_elim, ◌↔◌}
use mathlib.Core.List.Memᴰ.{cases_cons as cases}
use mathlib.Core.List.Memᴰ.{head}
use mathlib.Core.List.Memᴰ.{not-nil}
use mathlib.Core.List.{List, [], ◌∷◌, ◌++◌, Memᴰ}
use mathlib.Core.List.Memᴰ
use mathlib.Core.List.{map, map-append}
use Prim.Native.Nat.{ℕ, zero, suc, ◌+◌, ◌≤◌, ◌<◌}
use native.Mathlib.Decide.{ℕ_discrete}
use native.Mathlib.Omega.{arith}
use lib.ListN.{length, get_or, set, take, length-set, length-append, get_or-append}
use lib.Seq.{take-suc, take_all, take-set-le, ext_get_or, get_or_at, get_or-set_same, get_or-set_other}
use Rattle.arrays.specs.Tab.{tab}

pub tab-length : {A : Type 0} (f : ℕ → A) (n : ℕ) → length (tab f n) ≡ n
unfolding tab
tab-length f zero = refl
tab-length f (suc n) = omega (arith, length-append (tab f n) (f n ∷ []), tab-length f n)

pub tab_get : {A : Type 0} (f : ℕ → A) (n i : ℕ) (d : A) → i < n → get_or (tab f n) i d ≡ f i
unfolding tab
tab_get f zero i d h = absurd (omega arith)
tab_get f (suc n) i d h = go (ℕ_discrete i n) (λ l. tab_get f n i d l)
  where
    go : Dec (i ≡ n) → (i < n → get_or (tab f n) i d ≡ f i) → get_or (tab f n ++ (f n ∷ [])) i d ≡ f i
    go (yes e) rec = ap (λ (z : ℕ). get_or (tab f n ++ (f n ∷ [])) z d) e ∙ get_or_at (tab f n) (f n) [] d n (tab-length f n) ∙ ap f (sym e)
    go (no e) rec = get_or-append (tab f n) (f n ∷ []) d i (omega (arith, tab-length f n)) ∙ rec (omega arith)

-- Two tables are equal where their entries are.
pub tab_same : {A : Type 0} (f g : ℕ → A) (n : ℕ) → ((i : ℕ) → i < n → f i ≡ g i) → tab f n ≡ tab g n
unfolding tab
tab_same f g zero h = refl
tab_same f g (suc n) h = ap₂ (λ l a. l ++ (a ∷ [])) (tab_same f g n (λ i l. h i (omega arith))) (h n (omega arith))

-- A table with one entry set.
pub tab-set : (f g : ℕ → ℕ) (n v x : ℕ) → v < n → g v ≡ x → ((i : ℕ) → i < n → ¬ (i ≡ v) → f i ≡ g i) → set (tab f n) v x ≡ tab g n
tab-set f g n v x hv ev other =
    ext_get_or 0 (set (tab f n) v x) (tab g n) (length-set (tab f n) v x ∙ tab-length f n ∙ sym (tab-length g n))
    (λ i l. go i (omega (arith, length-set (tab f n) v x, tab-length f n)) (ℕ_discrete i v))
  where
    go : (i : ℕ) → i < n → Dec (i ≡ v) → get_or (set (tab f n) v x) i 0 ≡ get_or (tab g n) i 0
    go i l (yes e) =
        ap (λ (z : ℕ). get_or (set (tab f n) v x) z 0) e ∙ get_or-set_same (tab f n) v x 0 (omega (arith, tab-length f n))
        ∙ sym ev ∙ ap g (sym e) ∙ sym (tab_get g n i 0 l)
    go i l (no e) = get_or-set_other (tab f n) v i x 0 e ∙ tab_get f n i 0 l ∙ other i l e ∙ sym (tab_get g n i 0 l)

-- A list filled from the front: one more value, and all of them.
pub tab_more : {A : Type 0} (f : ℕ → A) (l : List A) (i : ℕ) (a : A) → i < length l → take i l ≡ tab f i → a ≡ f i
    → take (i + 1) (set l i a) ≡ tab f (i + 1)
unfolding tab
tab_more f l i a h e g =
    let next : i + 1 ≡ suc i = omega arith in
    rw next (take-suc (set l i a) i a (omega (arith, length-set l i a))
    ∙ ap₂ (λ m x. m ++ (x ∷ [])) (take-set-le i l i a (omega arith) ∙ e) (get_or-set_same l i a a h ∙ g))

pub tab-whole : {A : Type 0} (f : ℕ → A) (l : List A) (n : ℕ) → length l ≡ n → take n l ≡ tab f n → l ≡ tab f n
tab-whole f l n e h = sym (take_all n l (omega arith)) ∙ h

pub tab_in : {A : Type 0} (f : ℕ → A) (n : ℕ) (a : A) → Memᴰ a (tab f n) ↔ ((i : ℕ) × (i < n) × (a ≡ f i))
unfolding tab
tab_in f zero a = (λ m. absurd (not-nil m), λ r. absurd (omega arith))
tab_in f (suc n) a = (
  λ m. ⊎_elim (λ k. let r = (tab_in f n a).0 k in (r.0, omega arith, r.2))
      (λ k. ⊎_elim (λ e. (n, omega arith, e)) (λ j. absurd (not-nil j)) (cases k)) (Memᴰ.append_cases (tab f n) m),
  λ r. go r.0 r.1 r.2 (ℕ_discrete r.0 n) (λ i h e. (tab_in f n a).1 (i, h, e)),
)
  where
    go : (i : ℕ) → i < suc n → a ≡ f i → Dec (i ≡ n) → ((i : ℕ) → i < n → a ≡ f i → Memᴰ a (tab f n)) → Memᴰ a (tab f n ++ (f n ∷ []))
    go i h e (yes q) rec = Memᴰ.append_right (tab f n) (head (e ∙ ap f q))
    go i h e (no q) rec = Memᴰ.append_left (f n ∷ []) (rec i (omega arith) e)

-- What f makes of the values of a function is what g makes of a list's numbers, where it is so of each.
pub tab-map : {A B : Type 0} (at : ℕ → A) (f : A → B) (g : ℕ → B) (l : List ℕ) → ((i : ℕ) → f (at i) ≡ g (get_or l i 0)) → (n : ℕ) → n ≤ length l
    → map f (tab at n) ≡ map g (take n l)
unfolding tab
tab-map at f g l e zero h = refl
tab-map at f g l e (suc n) h =
    map-append f (tab at n) (at n ∷ []) ∙ (λ i. tab-map at f g l e n (omega arith) i ++ (e n i ∷ []))
    ∙ sym (map-append g (take n l) (get_or l n 0 ∷ [])) ∙ ap (map g) (sym (take-suc l n 0 h))
