-- Sets go along a map that keeps the order of their members: put, out, has, union and rising give the same on both sides.
use mathlib.Core.Path.{◌≡◌, refl, ap, ap₂, ◌∙◌}
use mathlib.Core.Bool.{Bool, true, false, not, ◌&&◌}
use mathlib.Core.List.Memᴰ.{head}
use mathlib.Core.List.Memᴰ.{tail}
use mathlib.Core.List.{List, [], ◌∷◌, map, Memᴰ}
use mathlib.Core.Logic.{⊎_elim}
use Rattle.arrays.specs.Order.{StrictTotal}
use lib.Dec.{T}
use Rattle.arrays.specs.Test.{if}
use Rattle.arrays.specs.Set.{tie, put, out, has, union, rising}
use Rattle.arrays.proofs.Set.{union_in}

-- Two choices by equal tests between equal arms.
pub if-map : {A B : Type 0} (f : A → B) (b c : Bool) (x y : Unit {0} → A) (x' y' : Unit {0} → B) → b ≡ c → f (x tt) ≡ x' tt → f (y tt) ≡ y' tt
    → f (if b x y) ≡ if c x' y'
if-map f b true x y x' y' e p q = ap (λ (z : Bool). f (if z x y)) e ∙ p
if-map f b false x y x' y' e p q = ap (λ (z : Bool). f (if z x y)) e ∙ q

module _ {A B : Type 0} (f : A → B) (less : A → A → Bool) (less' : B → B → Bool) (Q : A → Type 0)
    (agree : (a b : A) → Q a → Q b → less a b ≡ less' (f a) (f b)) where
  abbrev All : List A → Type 0
  All l = (a : A) → Memᴰ a l → Q a

  pub tie-map : (a b : A) → Q a → Q b → tie less a b ≡ tie less' (f a) (f b)
  tie-map a b p q = ap₂ (λ (x y : Bool). not x && not y) (agree a b p q) (agree b a q p)

  pub put_map : (a : A) → Q a → (l : List A) → All l → map f (put less a l) ≡ put less' (f a) (map f l)
  unfolding put
  put_map a p [] h = refl
  put_map a p (b ∷ l) h =
      let q = h b (head refl) in
      let behind = ap (λ (m : List B). f b ∷ m) (put_map a p l (λ c i. h c (tail i))) in
      if-map (map f) (less a b) (less' (f a) (f b)) _ _ _ _ (agree a b p q) refl
      (if-map (map f) (less b a) (less' (f b) (f a)) _ _ _ _ (agree b a q p) behind refl)

  pub out-map : (a : A) → Q a → (l : List A) → All l → map f (out less a l) ≡ out less' (f a) (map f l)
  unfolding out
  out-map a p [] h = refl
  out-map a p (b ∷ l) h =
      if-map (map f) (tie less a b) (tie less' (f a) (f b)) _ _ _ _ (tie-map a b p (h b (head refl))) (out-map a p l (λ c i. h c (tail i)))
      (ap (λ (m : List B). f b ∷ m) (out-map a p l (λ c i. h c (tail i))))

  pub has_map : (a : A) → Q a → (l : List A) → All l → has less a l ≡ has less' (f a) (map f l)
  unfolding has
  has_map a p [] h = refl
  has_map a p (b ∷ l) h =
      if-map (λ (x : Bool). x) (tie less a b) (tie less' (f a) (f b)) _ _ _ _ (tie-map a b p (h b (head refl))) refl (has_map a p l (λ c i. h c (tail i)))

  pub union-map : StrictTotal (λ (a b : A). T (less a b)) → (l m : List A) → All l → All m → map f (union less l m) ≡ union less' (map f l) (map f m)
  unfolding union
  union-map order [] m h k = refl
  union-map order (a ∷ l) m h k =
      put_map a (h a (head refl)) (union less l m) (λ c i. ⊎_elim (λ j. h c (tail j)) (k c) ((union_in less order l m c).0 i))
      ∙ ap (put less' (f a)) (union-map order l m (λ c i. h c (tail i)) k)

  pub rising-map : (l : List A) → All l → rising less l ≡ rising less' (map f l)
  unfolding rising
  rising-map [] h = refl
  rising-map (a ∷ []) h = refl
  rising-map (a ∷ b ∷ l) h =
      ap₂ ◌&&◌ (agree a b (h a (head refl)) (h b (tail (head refl)))) (rising-map (b ∷ l) (λ c i. h c (tail i)))
