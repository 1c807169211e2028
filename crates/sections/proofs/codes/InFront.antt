-- The points of a section as codes, one after the other until one is out of range: four bytes are the first point, and what is
-- left of the bytes are the others.
use mathlib.Core.Path.{◌≡◌, refl, sym, ap, ap₂, ◌∙◌}
use mathlib.Core.Bool.{Bool, true, false, ◌&&◌}
use mathlib.Core.List.{List, [], ◌∷◌, ◌++◌, append-nil, map}
use Prim.Native.Nat.{ℕ, suc, ◌+◌, ◌*◌, ◌-◌, ◌≤◌, ◌<◌}
use native.Mathlib.Numerals.{add-one, towards_suc}
use native.Mathlib.Omega.{arith}
use Rattle.std.specs.Prelude.{Some, None}
use lib.ListN.{length, take, drop, get_or, set, replicate, length-set, length-replicate, take-append-drop, drop_of_length-le}
use lib.Seq.{length-take-le, drop-cons, append_snoc, drop-drop, drop-set-lt, take-suc-set}
use Rattle.plane.specs.Point.{Point, in_range}
use Rattle.plane.specs.Code.{code, located}
use Rattle.plane.proofs.codes.Points.{out-located, in_located}
use Rattle.arrays.proofs.Test.{true_of}
use Rattle.arrays.specs.Set.{all}
use Rattle.model.specs.File.{points_of}
use Rattle.points.specs.Coded.{padded}
use Rattle.points.proofs.Codes.{drop_zeros}
use Rattle.sections.specs.Codes.{point_in}

-- The first point, and the others.
points_more : (b : List ℕ) (i : ℕ) → i + 4 ≤ length b → points_of (drop i b) ≡ point_in b i ∷ points_of (drop (i + 4) b)
unfolding points_of
points_more b i h = ap points_of four
  where
    four : drop i b ≡ get_or b i 0 ∷ get_or b (i + 1) 0 ∷ get_or b (i + 2) 0 ∷ get_or b (i + 3) 0 ∷ drop (i + 4) b
    four =
        simp towards_suc
        (drop-cons b i 0 (omega arith) ∙ ap (λ l. get_or b i 0 ∷ l) (drop-cons b (suc i) 0 (omega arith)
        ∙ ap (λ l. get_or b (suc i) 0 ∷ l) (drop-cons b (suc (suc i)) 0 (omega arith)
        ∙ ap (λ l. get_or b (suc (suc i)) 0 ∷ l) (drop-cons b (suc (suc (suc i))) 0 (omega arith)))))

-- The first i codes stand at the front of an array of n zeros, and the other points are still to come.
pub record InFront (n : ℕ) (b out : List ℕ) (i : ℕ) : Type 0 where
  pub long : length out ≡ n
  pub rest : drop i out ≡ drop i (replicate n 0)
  pub codes : map code (points_of b) ≡ take i out ++ map code (points_of (drop (4 * i) b))
  pub ranges : all in_range (points_of b) ≡ all in_range (points_of (drop (4 * i) b))

module _ (n : ℕ) (b : List ℕ) where
  pub none_yet : InFront n b (replicate n 0) 0
  none_yet = record { long = length-replicate {A = ℕ} n 0; rest = refl; codes = refl; ranges = refl }

  module _ {out : List ℕ} {i : ℕ} (d : InFront n b out i) where
    pub all_there : i ≤ n → length b ≤ 4 * i → (all in_range (points_of b) ≡ true) × (out ≡ padded n (map code (points_of b)))
    unfolding all points_of
    all_there h l =
        let none : drop (4 * i) b ≡ [] = drop_of_length-le b {i = 4 * i} l in
        let front : map code (points_of b) ≡ take i out =
        d.codes ∙ ap (λ (m : List ℕ). take i out ++ map code (points_of m)) none ∙ append-nil (take i out) in
        let size : i ≡ length (map code (points_of b)) = sym (ap length front ∙ length-take-le i out (omega (arith, d.long, h))) in (
          d.ranges ∙ ap (λ (m : List ℕ). all in_range (points_of m)) none,
          sym (take-append-drop i out)
              ∙ ap₂ ◌++◌ (sym front) (d.rest ∙ drop_zeros i n ∙ ap (λ (z : ℕ). replicate (n - z) 0) size),
        )

    module _ (h : 4 * i + 4 ≤ length b) where
      abbrev p : Point
      p = point_in b (4 * i)

      abbrev others : List Point
      others = points_of (drop (4 * (i + 1)) b)

      next : points_of (drop (4 * i) b) ≡ p ∷ others
      next =
          let e : 4 * i + 4 ≡ 4 * (i + 1) = omega arith in
          points_more b (4 * i) h ∙ ap (λ (z : ℕ). p ∷ points_of (drop z b)) e

      next_ranges : {t : Bool} → in_range p ≡ t → all in_range (points_of b) ≡ t && all in_range others
      unfolding all
      next_ranges e = d.ranges ∙ ap (all in_range) next ∙ ap (λ (z : Bool). z && all in_range others) e

      pub out_of_range : None ≡ located p → all in_range (points_of b) ≡ false
      out_of_range e = next_ranges (out-located p (sym e))

      pub one_more : i < n → {k : ℕ} → Some k ≡ located p → InFront n b (set out i k) (i + 1)
      one_more l {k} f =
          let q = (in_located p k (sym f)).1 in
          let e = true_of (in_range p) (in_located p k (sym f)).0 in
          let front = take-suc-set out i k (omega (arith, d.long, l)) in
          record {
            long = length-set out i k ∙ d.long;
            rest = drop-set-lt (i + 1) out i k (omega arith) ∙ sym (drop-drop 1 i out) ∙ ap (drop 1) d.rest ∙ drop-drop 1 i (replicate n 0);
            codes =
                d.codes ∙ ap (λ ps. take i out ++ map code ps) next ∙ ap (λ (z : ℕ). take i out ++ z ∷ map code others) (sym q)
                ∙ sym (append_snoc (take i out) k (map code others))
                ∙ ap (λ l. l ++ map code others) (sym (ap (λ (z : ℕ). take z (set out i k)) (add-one i) ∙ front));
            ranges = next_ranges e;
          }
