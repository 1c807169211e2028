-- A set of codes in an array with zeros behind: it stays one when a code is put in or taken out, and the codes of points in range are one.
use mathlib.Core.Path.{◌≡◌, refl, sym, ap, ◌∙◌, subst, subst⁻¹}
use mathlib.Core.Logic.{⊎_elim}
use mathlib.Core.Bool.{true}
use mathlib.Core.List.{List, ◌++◌, map, Memᴰ}
use Prim.Native.Nat.{ℕ, zero, suc, ◌+◌, ◌-◌, ◌≤◌, ◌<◌}
use native.Mathlib.Numerals.{unary_clauses}
use native.Mathlib.Omega.{arith}
use lib.Dec.{T, ltb}
use lib.ListN.{length, take, drop, replicate, length-map, length-append, length-replicate}
use lib.ListN.{replicate-append-replicate}
use lib.Seq.{length-take-le, drop-drop, take_at, drop_at}
use Rattle.arrays.specs.Array.{Removed}
use Rattle.arrays.specs.Order.{Sorted}
use Rattle.arrays.specs.Paste.{Pasted}
use Rattle.arrays.specs.Set.{put, out, rising}
use Rattle.arrays.proofs.Order.{nat_order}
use Rattle.arrays.proofs.Set.{put_in, put-sorted, out_in, out-sorted, rising-sorted}
use Rattle.arrays.proofs.Test.{true_of, of_true}
use Rattle.arrays.proofs.paste.Parts.{front-take, front-drop, front-count}
use Rattle.sorted.proofs.Results.{removed_part, removed_behind, put-most, put-least, out-most}
use Rattle.plane.specs.Code.{code, is_code}
use Rattle.plane.specs.Point.{Point, lower}
use Rattle.plane.proofs.codes.Points.{AllInRange, map-codes, codes_are}
use Rattle.plane.proofs.codes.Sets.{points-rising}
use Rattle.points.specs.Coded.{padded, Codes}

pub drop_zeros : (m n : ℕ) → drop m (replicate {A = ℕ} n 0) ≡ replicate (n - m) 0
drop_zeros zero n = simp unary_clauses refl
drop_zeros (suc m) zero = ap (λ (z : ℕ). replicate z 0) none
  where
    none : 0 ≡ 0 - suc m
    none = omega arith
drop_zeros (suc m) (suc n) = drop_zeros m n ∙ ap (λ (z : ℕ). replicate z 0) less
  where
    less : n - m ≡ suc n - suc m
    less = omega arith

-- A set of codes rises.
pub codes-sorted : {a : List ℕ} {n room : ℕ} → Codes a n room → Sorted (λ (j k : ℕ). T (ltb j k)) (take n a)
codes-sorted {a} {n} c = (rising-sorted ltb nat_order (take n a)).0 (of_true c.rise)

pub codes_full : {a : List ℕ} {n room : ℕ} → Codes a n room → length (take n a) ≡ n
codes_full {a} {n} c = length-take-le n a (omega (arith, c.few, c.size))

sorted_rises : (l : List ℕ) → Sorted (λ (j k : ℕ). T (ltb j k)) l → rising ltb l ≡ true
sorted_rises l s = true_of (rising ltb l) ((rising-sorted ltb nat_order l).1 s)

-- A code put in leaves arranged codes.
pub codes-put : (a a' : List ℕ) (n r room k : ℕ) → Codes a n room → T (is_code k) → n < room → Pasted (put ltb k (take n a)) a a' 0 r
    → length a' ≡ length a → Codes a' r room
codes-put a a' n r room k c t h x same =
    record {
      size = same ∙ c.size;
      few = omega (arith, front-count x, put-most k (take n a), full);
      codes =
          λ q i. ⊎_elim (λ e. subst⁻¹ (λ (z : ℕ). T (is_code z)) e t) (c.codes q)
          ((put_in ltb nat_order k q (take n a)).0 (subst (λ (l : List ℕ). Memᴰ q l) part i));
      rise = ap (rising ltb) part ∙ rises;
      rest =
          front-drop x r (omega arith) ∙ ap (λ (z : ℕ). drop z a) (sym sum) ∙ sym (drop-drop (r - n) n a)
          ∙ ap (drop (r - n)) c.rest ∙ drop_zeros (r - n) (room - n) ∙ ap (λ (z : ℕ). replicate z 0) left;
    }
  where
    part : take r a' ≡ put ltb k (take n a)
    part = front-take x

    full : length (take n a) ≡ n
    full = codes_full c

    rises : rising ltb (put ltb k (take n a)) ≡ true
    rises = sorted_rises (put ltb k (take n a)) (put-sorted ltb nat_order k (take n a) (codes-sorted c))

    more : n ≤ r
    more = omega (arith, front-count x, put-least k (take n a), full)

    sum : n + (r - n) ≡ r
    sum = omega (arith, more)

    left : room - n - (r - n) ≡ room - r
    left = omega (arith, more)

-- A code taken out leaves arranged codes.
pub codes-out : (a a' : List ℕ) (n r room k : ℕ) → Codes a n room → Removed (out ltb k (take n a)) a a' n r → length a' ≡ length a → Codes a' r room
codes-out a a' n r room k c x same =
    record {
      size = same ∙ c.size;
      few = omega (arith, x.count, short, c.few);
      codes = λ q i. c.codes q ((out_in ltb nat_order k q (take n a)).0 (subst (λ (l : List ℕ). Memᴰ q l) part i)).0;
      rise = ap (rising ltb) part ∙ sorted_rises (out ltb k (take n a)) (out-sorted ltb nat_order k (take n a) (codes-sorted c));
      rest =
          removed_behind (out ltb k (take n a)) a a' n r x ∙ ap (λ (l : List ℕ). replicate (n - r) 0 ++ l) c.rest
          ∙ replicate-append-replicate (n - r) (room - n) 0 ∙ ap (λ (z : ℕ). replicate z 0) left;
    }
  where
    part : take r a' ≡ out ltb k (take n a)
    part = removed_part (out ltb k (take n a)) a a' n r x

    short : length (out ltb k (take n a)) ≤ n
    short = omega (arith, out-most k (take n a), codes_full c)

    left : n - r + (room - n) ≡ room - r
    left = omega (arith, x.count, short, c.few)

-- A list with zeros behind: its front, what is behind it, its length.
pub padded-take : (n : ℕ) (l : List ℕ) (m : ℕ) → length l ≡ m → take m (padded n l) ≡ l
padded-take n l m e = take_at l (replicate (n - length l) 0) m e

pub padded-drop : (n : ℕ) (l : List ℕ) (m : ℕ) → length l ≡ m → drop m (padded n l) ≡ replicate (n - m) 0
padded-drop n l m e = drop_at l (replicate (n - length l) 0) m e ∙ ap (λ (z : ℕ). replicate (n - z) 0) e

pub padded-length : (n : ℕ) (l : List ℕ) → length l ≤ n → length (padded n l) ≡ n
padded-length n l h = omega (arith, length-append l (replicate (n - length l) 0), length-replicate {A = ℕ} (n - length l) 0)

-- The codes of rising points in range.
pub padded-codes : (room : ℕ) (l : List Point) → AllInRange l → length l ≤ room → T (rising lower l) → Codes (padded room (map code l)) (length l) room
padded-codes room l range few rise =
    record {
      size = padded-length room (map code l) (omega (arith, length-map l code));
      few = few;
      codes = λ k i. codes_are l range k (subst (λ (z : List ℕ). Memᴰ k z) part i);
      rise = ap (rising ltb) part ∙ points-rising (map code l) (codes_are l range) ∙ ap (rising lower) (map-codes l range) ∙ true_of (rising lower l) rise;
      rest = padded-drop room (map code l) (length l) (length-map l code);
    }
  where
    part : take (length l) (padded room (map code l)) ≡ map code l
    part = padded-take room (map code l) (length l) (length-map l code)
