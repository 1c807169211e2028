-- The header and the sections of a file, put one behind the other, are the file: by the length of each part.
use mathlib.Core.Path.{◌≡◌, refl, sym, ap, ◌∙◌}
use mathlib.Core.Bool.{Bool, true, false}
use mathlib.Core.List.{List, [], ◌∷◌, ◌++◌, append_assoc, append-nil, map, flatten}
use Prim.Native.Nat.{ℕ, ◌+◌, ◌*◌, ◌≤◌}
use native.Mathlib.Omega.{arith}
use lib.ListN.{length, length-append}
use Rattle.arrays.specs.Paste.{Pasted, each}
use Rattle.arrays.proofs.paste.Lines.{each-length}
use Rattle.arrays.proofs.paste.Parts.{pasted_same, pasted_then}
use Rattle.model.specs.Sections.{header_size, header, file_size}
use Rattle.plane.specs.Code.{point_of}
use Rattle.model.specs.File.{section_of, kind_sections, sizes_of}
use Rattle.model.proofs.Sections.{header-length}
use Rattle.sections.specs.Bytes.{ends_bytes, code_bytes}
use Rattle.buffer.specs.Parts.{tree_parts, PartsFit}

-- The points of codes, in bytes.
pub section_is : (l : List ℕ) → each code_bytes l ≡ section_of (map point_of l)
unfolding each section_of
section_is [] = refl
section_is (k ∷ l) = ap (λ (bs : List ℕ). code_bytes k ++ bs) (section_is l)

-- How long the points, and the edges, are in bytes.
pub points-long : (l : List ℕ) → length (each code_bytes l) ≡ 4 * length l
points-long l = each-length code_bytes 4 (λ _. refl) l

pub edges-long : (l : List ℕ) → length (each ends_bytes l) ≡ 2 * length l
edges-long l = each-length ends_bytes 2 (λ _. refl) l

-- The length of the file of n pins, m Steiner points and e edges, part by part; that of the kinds is 0 or n.
pub kinds-long : (kinds : List ℕ) {n : ℕ} → length kinds ≡ n → (bare : Bool) (m e : ℕ)
    → header_size (length (sizes_of n m e bare)) + 4 * n + 4 * m + 2 * e + length (flatten (kind_sections bare kinds))
    ≡ file_size (sizes_of n m e bare)
unfolding flatten
kinds-long kinds h true m e = omega arith
kinds-long kinds h false m e = omega (arith, length-append kinds [], h)

-- So there is room up to the edges.
pub tree-room : (bare : Bool) (n m e : ℕ) → header_size (length (sizes_of n m e bare)) + 4 * n + 4 * m + 2 * e ≤ file_size (sizes_of n m e bare)
tree-room true n m e = omega arith
tree-room false n m e = omega arith

-- What stands for the kinds, by whether all pins are sensors.
module _ (kinds : List ℕ) {bare : Bool} where
  pub bare_kinds : bare ≡ true → [] ≡ flatten (kind_sections bare kinds)
  unfolding flatten
  bare_kinds t = sym (ap (λ (b : Bool). flatten (kind_sections b kinds)) t)

  pub all_kinds_lem : bare ≡ false → kinds ≡ flatten (kind_sections bare kinds)
  unfolding flatten
  all_kinds_lem t = sym (append-nil kinds) ∙ sym (ap (λ (b : Bool). flatten (kind_sections b kinds)) t)

-- The place behind the header.
pub header_end : (sizes : List ℕ) {l o : List ℕ} {r : ℕ} → Pasted (header sizes) l o 0 r → r ≡ header_size (length sizes)
header_end sizes p = omega (arith, p.next, header-length sizes)

module _ {pins steiner ends : List ℕ} {bare : Bool} {old : List ℕ} (k : PartsFit pins steiner ends bare old) where
  abbrev sizes : List ℕ
  sizes = sizes_of (length pins) (length steiner) (length ends) bare

  -- The header, the points and the edges fit.
  pub fits : header_size (length sizes) + 4 * length pins + 4 * length steiner + 2 * length ends ≤ length old
  fits = omega (arith, tree-room bare (length pins) (length steiner) (length ends), k.room)

  pub tree-put : {o₁ o₂ o₃ o₄ : List ℕ} {a b c r : ℕ} → Pasted (header sizes) old o₁ 0 a → Pasted (each code_bytes pins) o₁ o₂ a b
      → Pasted (each code_bytes steiner) o₂ o₃ b c → Pasted (each ends_bytes ends) o₃ o₄ c r
      → Pasted (tree_parts pins steiner ends bare) old o₄ 0 r
  tree-put p q s t =
      let first = header_end sizes p in
      let long = points-long pins in
      pasted_same
      (append_assoc (header sizes ++ each code_bytes pins) (each code_bytes steiner) (each ends_bytes ends)
      ∙ append_assoc (header sizes) (each code_bytes pins) (each code_bytes steiner ++ each ends_bytes ends))
      (pasted_then (pasted_then (pasted_then p (omega (arith, first, fits)) q) (omega (arith, first, q.next, long, fits)) s)
      (omega (arith, first, q.next, s.next, long, points-long steiner, fits)) t)

  -- The kinds fit behind the edges.
  pub kinds_fit : (kinds : List ℕ) → length kinds ≡ length pins → {o : List ℕ} {r : ℕ} → Pasted (tree_parts pins steiner ends bare) old o 0 r
      → r + length (flatten (kind_sections bare kinds)) ≤ length old
  kinds_fit kinds h p = omega (arith, tree-long, p.next, kinds-long kinds h bare (length steiner) (length ends), k.room)
    where
      tree-long : length (tree_parts pins steiner ends bare) ≡ header_size (length sizes) + 4 * length pins + 4 * length steiner + 2 * length ends
      tree-long =
          omega (
            arith,
            length-append (header sizes) (each code_bytes pins ++ (each code_bytes steiner ++ each ends_bytes ends)),
            length-append (each code_bytes pins) (each code_bytes steiner ++ each ends_bytes ends),
            length-append (each code_bytes steiner) (each ends_bytes ends),
            header-length sizes,
            points-long pins,
            points-long steiner,
            edges-long ends,
          )
