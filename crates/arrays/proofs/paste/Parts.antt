-- Items put over a part of an array: nothing, one item, one part behind another, what a caller reads afterwards, and a
-- part at the front. By the seams of the lists.
use mathlib.Core.Path.{◌≡◌, refl, sym, ap, ap₂, ◌∙◌, subst}
use mathlib.Core.List.{List, [], ◌∷◌, ◌++◌, append_assoc}
use Prim.Native.Nat.{ℕ, ◌+◌, ◌-◌, ◌≤◌, ◌<◌}
use native.Mathlib.Nat.{zero-add}
use native.Mathlib.Omega.{arith}
use lib.ListN.{length, take, drop, set, length-append, length-drop, take-append-drop}
use lib.Seq.{paste-zero, sets-eq, length-take-le, take-length, take_all, take_at, drop_at, drop-drop, drop-append-add}
use Rattle.arrays.specs.Paste.{Pasted}

-- The array as three parts.
pub pasted_parts : {A : Type 0} {items before after : List A} {at r : ℕ} → Pasted items before after at r
    → after ≡ (take at before ++ items) ++ drop (at + length items) before
pasted_parts {A} {items} {before} {after} {at} p =
    p.is ∙ ap (λ (s : List A). (take at before ++ s) ++ drop (at + length items) before) (take-length items)

pub pasted_of : {A : Type 0} {items before after : List A} {at r : ℕ} → r ≡ at + length items
    → after ≡ (take at before ++ items) ++ drop (at + length items) before → Pasted items before after at r
pasted_of {A} {items} {before} {after} {at} n e =
    record { next = n; is = e ∙ ap (λ (s : List A). (take at before ++ s) ++ drop (at + length items) before) (sym (take-length items)) }

-- The same items by another name.
pub pasted_same : {a b l m : List ℕ} {at r : ℕ} → a ≡ b → Pasted a l m at r → Pasted b l m at r
pasted_same {a} {b} {l} {m} {at} {r} e p = subst (λ (z : List ℕ). Pasted z l m at r) e p

-- Nothing, and one item.
pub pasted_none : (l : List ℕ) (at : ℕ) → Pasted [] l l at (at + 0)
pasted_none l at = record { next = refl; is = paste-zero l at [] }

pub pasted_one : (l : List ℕ) (at b : ℕ) → at < length l → Pasted (b ∷ []) l (set l at b) at (at + 1)
pasted_one l at b h = pasted_of refl (sets-eq (b ∷ []) l at (omega arith))

module _ {a l m : List ℕ} {at r : ℕ} (p : Pasted a l m at r) (fits : r ≤ length l) where
  front : length (take at l ++ a) ≡ r
  front = omega (arith, length-append (take at l) a, length-take-le at l (omega (arith, p.next)), p.next)

  -- The array is as long as it was; up to the items, and behind them, it is as it was.
  pub pasted_length : length m ≡ length l
  pasted_length =
      ap length (pasted_parts p) ∙ length-append (take at l ++ a) (drop (at + length a) l)
      ∙ omega (arith, front, p.next, length-drop (at + length a) l)

  pub pasted_take : take r m ≡ take at l ++ a
  pasted_take = ap (take r) (pasted_parts p) ∙ take_at (take at l ++ a) (drop (at + length a) l) r front

  pub pasted_drop : (n : ℕ) → r ≤ n → drop n m ≡ drop n l
  pasted_drop n h =
      let e : r + (n - r) ≡ n = omega arith in
      subst (λ (z : ℕ). drop z m ≡ drop z l) e
      (sym (drop-drop (n - r) r m) ∙ ap (drop (n - r)) behind ∙ drop-drop (n - r) r l)
    where
      behind : drop r m ≡ drop r l
      behind =
          ap (drop r) (pasted_parts p) ∙ drop_at (take at l ++ a) (drop (at + length a) l) r front ∙ ap (λ (k : ℕ). drop k l) (sym p.next)

  -- A second part behind the first.
  pub pasted_then : {b n : List ℕ} {s : ℕ} → Pasted b m n r s → Pasted (a ++ b) l n at s
  pasted_then {b} {n} {s} q =
      let sum : r + length b ≡ at + length (a ++ b) = omega (arith, length-append a b, p.next) in
      pasted_of (q.next ∙ sum)
      (pasted_parts q ∙ ap₂ (λ (x y : List ℕ). (x ++ b) ++ y) pasted_take (pasted_drop (r + length b) (omega arith) ∙ ap (λ (k : ℕ). drop k l) sum)
      ∙ ap (λ (x : List ℕ). x ++ drop (at + length (a ++ b)) l) (append_assoc (take at l) a b))

-- At the front.
module _ {A : Type 0} {items before after : List A} {r : ℕ} where
  pub front_of : r ≡ length items → after ≡ items ++ drop (length items) before → Pasted items before after 0 r
  front_of n e = pasted_of (n ∙ sym (zero-add (length items))) (e ∙ ap (λ (k : ℕ). items ++ drop k before) (sym (zero-add (length items))))

  module _ (p : Pasted items before after 0 r) where
    pub front-count : r ≡ length items
    front-count = omega (arith, p.next)

    pub front_is : after ≡ items ++ drop (length items) before
    front_is = pasted_parts p ∙ ap (λ (k : ℕ). items ++ drop k before) (zero-add (length items))

    pub front-take : take r after ≡ items
    front-take = ap (take r) front_is ∙ take_at items (drop (length items) before) r (sym front-count)

    pub front-drop : (n : ℕ) → r ≤ n → drop n after ≡ drop n before
    front-drop n h =
        let e : length items + (n - length items) ≡ n = omega (arith, front-count) in
        ap (drop n) front_is
        ∙ subst (λ (m : ℕ). drop m (items ++ drop (length items) before) ≡ drop m before) e
        (drop-append-add items (drop (length items) before) (n - length items) ∙ drop-drop (n - length items) (length items) before)

-- As many items as fit: all of them where they do.
pub front-whole : {l before after : List ℕ} {r : ℕ} → Pasted (take (length before) l) before after 0 r → length l ≤ length before → Pasted l before after 0 r
front-whole {l} {before} p h = pasted_same (take_all (length before) l h) p

-- The part at the front is within the array.
pub front-within : {l before after : List ℕ} {r : ℕ} → Pasted l before after 0 r → (r ≤ length after) × (r ≡ length (take r after))
front-within {l} {before} {after} {r} f =
    let h : length after ≡ length l + length (drop (length l) before) = ap length (front_is f) ∙ length-append l (drop (length l) before) in
    let k : r ≤ length after = omega (arith, h, front-count f) in
    (k, sym (length-take-le r after k))

-- What stands at the front already.
pub front_same : (m : ℕ) (l : List ℕ) → m ≤ length l → Pasted (take m l) l l 0 m
front_same m l h =
    let e : length (take m l) ≡ m = length-take-le m l h in
    front_of (sym e) (sym (take-append-drop m l) ∙ ap (λ (z : ℕ). take m l ++ drop z l) (sym e))

-- A part at the front, and then another that is no shorter.
pub front_again : {l k before mid after : List ℕ} {n r : ℕ} → Pasted l before mid 0 n → Pasted k mid after 0 r → length l ≤ length k → Pasted k before after 0 r
front_again {l} {k} {before} {mid} f g h =
    front_of (front-count g) (front_is g ∙ ap (λ (z : List ℕ). k ++ z) (front-drop f (length k) (omega (arith, front-count f))))
