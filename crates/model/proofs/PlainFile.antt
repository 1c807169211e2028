-- The plain file of valid contents is read as the deck of their pins: it is a file of the sections of these pins, with no run, which passes check 6
-- as it is plain.
use mathlib.Core.Path.{◌≡◌, refl, sym, ap, ◌∙◌}
use mathlib.Core.Logic.{inl}
use mathlib.Core.Bool.{Bool, true, false}
use mathlib.Core.List.Memᴰ.{not-nil}
use mathlib.Core.List.{List, [], ◌∷◌, map}
use Prim.Native.Nat.{ℕ, ◌≤◌}
use native.Mathlib.Omega.{arith}
use lib.Dec.{T, eqb}
use lib.Ieee.Fits.{eq→eqb}
use lib.ListN.{length}
use Rattle.arrays.proofs.Test.{and_both}
use Rattle.model.specs.DeviceKinds.{sensors_only}
use Rattle.model.specs.Contents.{Contents, with_tail, keeping, ValidContents}
use Rattle.model.specs.Tail.{no_tail}
use Rattle.model.specs.Question.{pin_count}
use Rattle.model.specs.Sections.{section_file, size, file_size}
use Rattle.model.specs.File.{plain, kind_sections, sections_with, sizes_of, pins_only, plain_file_of, deck, read_file}
use Rattle.model.proofs.Bytes.{section-length}
use Rattle.model.proofs.DeviceKinds.{keeping-valid}
use Rattle.model.proofs.Sections.{Laid, file_laid, sections_length}
use Rattle.model.proofs.FileValid.{accept}
use Rattle.model.proofs.FileKinds.{sections_few}
use Rattle.model.proofs.FileRoundTrip.{laid_accepted}

-- The pins of valid contents alone are valid.
pub pins-valid : (c : Contents) → ValidContents c → ValidContents (pins_only c)
pins-valid c v =
    let placed = v.state.placed in
    keeping-valid v
    (record {
      few = v.state.few;
      placed =
          record {
            pins_range = placed.pins_range;
            steiner_range = λ p i. absurd (not-nil i);
            pins_rise = placed.pins_rise;
            steiner_rise = tt;
            apart = λ p i j. not-nil j;
          };
      branching = λ q i. absurd (not-nil i);
    })
    refl

-- Contents without taps are their pins alone.
pub pins_alone : (c : Contents) → c.state.steiner ≡ [] → pins_only c ≡ c
pins_alone c e = λ i. keeping c (record { pins = c.state.pins; steiner = sym e i })

module _ (c : Contents) (v : ValidContents c) where
  -- The lengths of the sections, and of the file.
  pub plain_sizes : map length (sections_with [] (pins_only c)) ≡ sizes_of (pin_count c.state) 0 0 (sensors_only c.kinds)
  plain_sizes = λ i. section-length c.state.pins i ∷ section-length [] i ∷ 0 ∷ kinds (sensors_only c.kinds) i
    where
      kinds : (bare : Bool) → map length (kind_sections bare c.kinds) ≡ kind_sections bare (pin_count c.state)
      kinds true = refl
      kinds false = λ i. v.kind_count i ∷ []

  pub plain-length : length (plain_file_of c) ≡ file_size (sizes_of (pin_count c.state) 0 0 (sensors_only c.kinds))
  unfolding plain_file_of
  plain-length = sections_length (sections_with [] (pins_only c)) ∙ ap file_size plain_sizes

  -- At most 64 pins and 64 kinds make at most 358 bytes.
  pub plain_size : (30 ≤ length (plain_file_of c)) × (length (plain_file_of c) ≤ 358)
  plain_size =
      let r = bounds (sensors_only c.kinds) in
      (omega (arith, plain-length, r.0), omega (arith, plain-length, r.1))
    where
      bounds : (bare : Bool) → (30 ≤ file_size (sizes_of (pin_count c.state) 0 0 bare)) × (file_size (sizes_of (pin_count c.state) 0 0 bare) ≤ 358)
      bounds true = (omega arith, omega (arith, v.state.few))
      bounds false = (omega arith, omega (arith, v.state.few))

  pub plain-read : read_file (plain_file_of c) ≡ deck (with_tail no_tail (pins_only c))
  unfolding plain_file_of
  plain-read =
      accept b (with_tail no_tail (pins_only c))
      (laid_accepted b (pins_only c) (pins-valid c v) [] refl (inl bare) plain_size.0 (omega (arith, plain_size.1)) laid)
    where
      b : List ℕ
      b = section_file (sections_with [] (pins_only c))

      laid : Laid b (sections_with [] (pins_only c))
      laid = file_laid (sections_with [] (pins_only c)) (omega (arith, (sections_few c).1)) (omega (arith, plain_size.1))

      bare : T (plain b)
      bare =
          let taps = laid.parts.3 in
          and_both (eqb (size b 1) 0) _ (eq→eqb {a = size b 1} {b = 0} (omega (arith, taps.1, section-length [])))
          (eq→eqb {a = size b 2} {b = 0} (omega (arith, taps.3.1)))
