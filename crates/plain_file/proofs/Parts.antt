-- The parts of a plain file, put one behind the other, are the file of the deck's contents.
use mathlib.Core.Path.{◌≡◌, sym, ap, ◌∙◌}
use mathlib.Core.Bool.{Bool}
use mathlib.Core.List.{List, [], ◌++◌, map, flatten, append_assoc, append-nil}
use Prim.Native.Nat.{ℕ}
use native.Mathlib.Omega.{arith}
use lib.ListN.{length, take}
use lib.Seq.{length-take-le}
use Rattle.arrays.specs.Paste.{each}
use Rattle.model.specs.DeviceKinds.{sensors_only}
use Rattle.model.specs.Contents.{Contents, ValidContents}
use Rattle.model.specs.Sections.{header, section_file}
use Rattle.model.specs.File.{section_of, kind_sections, sizes_of, sections_with, pins_only, plain_file_of}
use Rattle.model.proofs.PlainFile.{plain_sizes}
use Rattle.points.proofs.Coded.{pins-count}
use Rattle.working.specs.declared.deck.WorkingDeck.{WorkingDeck}
use Rattle.working.specs.WorkingDeck.{contents_of}
use Rattle.sections.specs.Bytes.{code_bytes}
use Rattle.buffer.specs.Parts.{file_parts}
use Rattle.buffer.proofs.Parts.{section_is}

-- The parts of a deck in working form.
module _ (d : WorkingDeck) (v : ValidContents (contents_of d)) {bare : Bool} (is-bare : bare ≡ sensors_only (contents_of d).kinds) where
  abbrev c : Contents
  c = contents_of d

  abbrev pins : List ℕ
  pins = take d.form.points.npins d.form.points.pins

  sizes : sizes_of (length pins) 0 0 bare ≡ map length (sections_with [] (pins_only c))
  sizes =
      let long = length-take-le d.form.points.npins d.form.points.pins
      (omega (arith, d.form.in_order.arranged.pin_codes.few, d.form.in_order.arranged.pin_codes.size)) in
      let count = long ∙ sym (pins-count d.form.points d.form.in_order.arranged) in
      (λ i. sizes_of (count i) 0 0 (is-bare i)) ∙ sym (plain_sizes c v)

  pub plain_parts : file_parts pins [] [] (take d.form.points.npins d.kinds) bare ≡ plain_file_of c
  unfolding plain_file_of section_file flatten section_of each
  plain_parts =
      ap (λ (bs : List ℕ). (H ++ bs) ++ K) (append-nil P) ∙ append_assoc H P K
      ∙ (λ i. header (sizes i) ++ (section_is pins i ++ flatten (kind_sections (is-bare i) c.kinds)))
    where
      H : List ℕ
      H = header (sizes_of (length pins) 0 0 bare)

      P : List ℕ
      P = each code_bytes pins

      K : List ℕ
      K = flatten (kind_sections bare c.kinds)
