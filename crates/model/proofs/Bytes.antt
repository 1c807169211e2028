-- Points in bytes, read back and written back: a section goes by four bytes at a time, two for each coordinate.
use mathlib.Core.Path.{◌≡◌, refl, ap₂}
use mathlib.Core.List.Memᴰ.{head}
use mathlib.Core.List.Memᴰ.{tail}
use mathlib.Core.List.{List, [], ◌∷◌, ◌++◌, Memᴰ}
use Prim.Native.Nat.{ℕ, ◌+◌, ◌*◌, ◌/◌, ◌%◌, ◌<◌}
use native.Mathlib.Omega.{arith}
use lib.Dec.{T}
use lib.ListN.{length}
use Rattle.plane.specs.Point.{Point, coordinate_in_range, in_range}
use Rattle.plane.specs.Coordinate.{signed16, word16}
use Rattle.arrays.specs.Number.{bytes2}
use Rattle.arrays.proofs.Test.{and_parts}
use Rattle.arrays.proofs.number.Bytes.{Bytes, bytes_none, bytes-append, bytes2-bytes, bytes2_of}
use Rattle.plane.proofs.Stored.{signed_word, word_signed}
use Rattle.model.specs.File.{point_bytes, section_of, points_of}

-- Sections of points.
pub points-section : (l : List Point) → ((p : Point) → Memᴰ p l → T (in_range p)) → points_of (section_of l) ≡ l
unfolding section_of points_of
points-section [] r = refl
points-section (p ∷ l) r =
    let t = and_parts (coordinate_in_range p.x) (coordinate_in_range p.y) (r p (head refl)) in
    ap₂ (λ (q : Point) m. q ∷ m) (λ i. record { x = signed_word p.x t.0 i; y = signed_word p.y t.1 i })
    (points-section l (λ q i. r q (tail i)))

pub section-length : (l : List Point) → length (section_of l) ≡ 4 * length l
unfolding section_of
section-length [] = refl
section-length (p ∷ l) = omega (arith, section-length l)

pub section_points_lem : (b : List ℕ) → Bytes b → length b % 4 ≡ 0 → section_of (points_of b) ≡ b
unfolding section_of points_of
section_points_lem [] h e = refl
section_points_lem (a ∷ []) h e = absurd (omega arith)
section_points_lem (a ∷ b ∷ []) h e = absurd (omega arith)
section_points_lem (a ∷ b ∷ c ∷ []) h e = absurd (omega arith)
section_points_lem (a ∷ b ∷ c ∷ d ∷ l) h e =
    go (word_signed a b ha hb) (word_signed c d hc hd) (section_points_lem l (λ x i. h x (tail (tail (tail (tail i))))) (omega arith))
  where
    ha : a < 256
    ha = h a (head refl)

    hb : b < 256
    hb = h b (tail (head refl))

    hc : c < 256
    hc = h c (tail (tail (head refl)))

    hd : d < 256
    hd = h d (tail (tail (tail (head refl))))

    go : word16 (signed16 a b) ≡ a + 256 * b → word16 (signed16 c d) ≡ c + 256 * d → section_of (points_of l) ≡ l
        → point_bytes (record { x = signed16 a b; y = signed16 c d }) ++ section_of (points_of l) ≡ a ∷ b ∷ c ∷ d ∷ l
    go p q r = cc (bytes2_of a b ha hb, bytes2_of c d hc hd)

pub points-length : (b : List ℕ) → length (points_of b) ≡ length b / 4
unfolding points_of
points-length [] = refl
points-length (a ∷ []) = refl
points-length (a ∷ b ∷ []) = refl
points-length (a ∷ b ∷ c ∷ []) = refl
points-length (a ∷ b ∷ c ∷ d ∷ l) = omega (arith, points-length l)

pub section-bytes : (l : List Point) → Bytes (section_of l)
unfolding section_of
section-bytes [] = bytes_none
section-bytes (p ∷ l) =
    bytes-append (point_bytes p) (bytes-append (bytes2 (word16 p.x)) (bytes2-bytes (word16 p.x)) (bytes2-bytes (word16 p.y))) (section-bytes l)
