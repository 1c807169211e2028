-- Check 5 on codes is check 5 on points: the order of codes is that of points. The points decoded from the first two sections
-- are those that the file shows.
use mathlib.Core.Path.{◌≡◌, refl, sym, ap, ap₂, ◌∙◌}
use mathlib.Core.Bool.{Bool, true, false, not, ◌&&◌}
use mathlib.Core.List.Memᴰ.{head}
use mathlib.Core.List.Memᴰ.{tail}
use mathlib.Core.List.{List, [], ◌∷◌, map}
use Prim.Native.Nat.{ℕ, ◌+◌, ◌*◌, ◌/◌, ◌≤◌, ◌<◌}
use native.Mathlib.Omega.{arith}
use lib.Dec.{ltb}
use lib.ListN.{length, take, length-map}
use Rattle.std.specs.Prelude.{Option, MatchOption}
use Rattle.std.specs.Bool.{then_some}
use Rattle.plane.specs.Point.{Point, in_range, lower}
use Rattle.plane.specs.Code.{code}
use Rattle.arrays.proofs.Test.{of_true, and_yes}
use Rattle.plane.proofs.codes.Points.{AllInRange, code_is, point-code, map-codes, codes_are}
use Rattle.arrays.specs.Set.{has, rising, all}
use Rattle.model.specs.State.{max_pins, placed}
use Rattle.points.specs.Coded.{padded}
use Rattle.points.proofs.Codes.{padded-take}
use Rattle.model.specs.Sections.{header_size, section_count, offset, size, section}
use Rattle.model.specs.File.{fewest_sections, shortest, section_points, file_state}
use Rattle.model.proofs.Sections.{section-within, part_length}
use Rattle.model.proofs.Bytes.{points-length}
use Rattle.arrays.proofs.Set.{all_in}
use Rattle.arrays.specs.Array.{none_in}
use Rattle.plane.proofs.codes.Sets.{points_has, points-rising}
use Rattle.sections.specs.declared.codes.FilePoints.{FilePoints}
use Rattle.sections.specs.Codes.{placed_codes, file_places, Decodes}
use Rattle.sections.specs.Layout.{PointSection, Sections}

rising-test : (l : List Point) → AllInRange l → rising ltb (map code l) ≡ rising lower l
rising-test l r = points-rising (map code l) (codes_are l r) ∙ ap (rising lower) (map-codes l r)

apart-test : (l m : List Point) → AllInRange l → AllInRange m → none_in (map code m) (map code l) ≡ all (λ (p : Point). not (has lower p m)) l
unfolding all
apart-test [] m r s = refl
apart-test (p ∷ l) m r s =
    let i = r p (head refl) in
    ap₂ ◌&&◌ (ap not (points_has (code p) (code_is p i) (map code m) (codes_are m s) ∙ ap₂ (has lower) (point-code p i) (map-codes m s)))
    (apart-test l m (λ q j. r q (tail j)) s)

module _ (b : List ℕ) (d : Sections b) where
  -- Each section lies behind the header and within the file.
  pub inside : (k : ℕ) → k < fewest_sections → (shortest ≤ offset b k) × (offset b k + size b k ≤ length b)
  inside k h =
      let r = section-within b (section_count b) (header_size (section_count b)) 0 d.follow k (omega arith) (omega (arith, d.fewest)) in
      (omega (arith, r.0, d.fewest), r.1)

  pub pins-section : PointSection b 0
  pins-section = record { pair = omega (arith, d.long); within = (inside 0 (omega arith)).1; whole = d.whole₀ }

  pub steiner-section : PointSection b 1
  steiner-section = record { pair = omega (arith, d.long); within = (inside 1 (omega arith)).1; whole = d.whole₁ }

  section-count : (k : ℕ) → k < fewest_sections → length (section_points b k) ≡ size b k / 4
  section-count k h =
      points-length (section b k) ∙ ap (λ (n : ℕ). n / 4) (part_length b (offset b k) (size b k) (inside k h).1)

  pub pins-count : length (file_state b).pins ≡ size b 0 / 4
  pins-count = section-count 0 (omega arith)

  pub steiner_count_lem : length (file_state b).steiner ≡ size b 1 / 4
  steiner_count_lem = section-count 1 (omega arith)

  -- The Steiner points that a file shows have room in the places for them.
  pub steiner-room : size b 1 ≤ 4 * file_places
  steiner-room = let r = inside 1 (omega arith) in omega (arith, r.0, r.1, d.short)

  -- Check 5: in range, and the tests on codes.
  pub pins-outside : all in_range (section_points b 0) ≡ false → placed (file_state b) ≡ false
  unfolding placed
  pins-outside e = rw e refl

  pub steiner-outside : all in_range (section_points b 1) ≡ false → placed (file_state b) ≡ false
  unfolding placed
  steiner-outside e = rw e (by_first (all in_range (section_points b 0)))
    where
      by_first : (t : Bool) → t && false ≡ false
      by_first true = refl
      by_first false = refl

  -- The codes of points that are all in range, by the numbers read for the lengths of their sections.
  module _ {u v : ℕ} (e : u ≡ size b 0) (f : v ≡ size b 1) {pins steiner : List ℕ}
      (p : (all in_range (section_points b 0) ≡ true) × (pins ≡ padded max_pins (map code (section_points b 0))))
      (q : (all in_range (section_points b 1) ≡ true) × (steiner ≡ padded file_places (map code (section_points b 1)))) where
    taken : (k n : ℕ) → k < fewest_sections → {w : ℕ} → w ≡ size b k → {a : List ℕ} → a ≡ padded n (map code (section_points b k))
        → take (w / 4) a ≡ map code (section_points b k)
    taken k n h {w} g s =
        ap (take (w / 4)) s
        ∙ padded-take n (map code (section_points b k)) (w / 4)
        (length-map (section_points b k) code ∙ section-count k h ∙ ap (λ (z : ℕ). z / 4) (sym g))

    tests : placed_codes (take (u / 4) pins) (take (v / 4) steiner) ≡ placed (file_state b)
    unfolding placed
    tests =
        let r : AllInRange (section_points b 0) = (all_in in_range (section_points b 0)).0 (of_true p.0) in
        let s : AllInRange (section_points b 1) = (all_in in_range (section_points b 1)).0 (of_true q.0) in
        ap₂ placed_codes (taken 0 max_pins (omega arith) e p.1) (taken 1 file_places (omega arith) f q.1)
        ∙ ap₂ ◌&&◌ (rising-test _ r) (ap₂ ◌&&◌ (rising-test _ s) (apart-test _ _ r s))
        ∙ and_yes _ _ _ p.0 (and_yes _ _ _ q.0 refl)

    pub decodes : {z : Bool} → z ≡ placed_codes (take (u / 4) pins) (take (v / 4) steiner) → {r : Option FilePoints}
        → r ≡ then_some z (record { pins = pins; steiner = steiner })
        → MatchOption r (placed (file_state b) ≡ false) (λ found. Decodes b found)
    decodes {z} g {r} o = rw o (by_test z (sym (g ∙ tests)))
      where
        by_test : (t : Bool) → placed (file_state b) ≡ t
            → MatchOption (then_some t (record { pins = pins; steiner = steiner })) (placed (file_state b) ≡ false) (λ found. Decodes b found)
        by_test true h = record { passes = h; pins = p.1; steiner = q.1 }
        by_test false h = h
