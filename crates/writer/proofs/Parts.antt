-- The parts of a deck in working form, one behind the other, are the file of its contents.
use mathlib.Core.Path.{◌≡◌, sym, ap, ◌∙◌}
use mathlib.Core.Bool.{Bool}
use mathlib.Core.List.{List, ◌++◌, map, flatten, append_assoc}
use Prim.Native.Nat.{ℕ, ◌+◌, ◌-◌, ◌≤◌}
use native.Mathlib.Omega.{arith}
use lib.ListN.{length, take}
use lib.Seq.{length-take-le}
use Rattle.model.specs.State.{State}
use Rattle.model.specs.DeviceKinds.{sensors_only}
use Rattle.model.specs.Contents.{Contents, ValidContents}
use Rattle.model.specs.Sections.{header, section_file, file_size}
use Rattle.model.specs.File.{section_of, run_section, kind_sections, sections_of, sizes_of, file_of}
use Rattle.model.proofs.Sections.{sections_length}
use Rattle.model.proofs.FileSize.{sizes_are, steiner_few_lem}
use Rattle.points.specs.declared.Points.{Points}
use Rattle.points.proofs.Coded.{pins-count, steiner_count_lem}
use Rattle.working.specs.declared.deck.WorkingDeck.{WorkingDeck}
use Rattle.working.specs.InOrder.{state_of}
use Rattle.working.specs.WorkingDeck.{contents_of}
use Rattle.edges.specs.Edges.{edge_row}
use Rattle.edges.proofs.Numbers.{edge_count_lem}
use Rattle.sections.specs.Bytes.{edge_bytes}
use Rattle.buffer.specs.Parts.{file_parts, PartsFit}
use Rattle.buffer.proofs.Parts.{section_is}
use Rattle.writer.proofs.Runs.{count_is, edges_are}

module _ (d : WorkingDeck) (v : ValidContents (contents_of d)) where
  abbrev c : Contents
  c = contents_of d

  abbrev s : State
  s = state_of d.form

  abbrev q : Points
  q = d.form.points

  abbrev n : ℕ
  n = q.npins

  abbrev m : ℕ
  m = q.nsteiner

  pub few : (n ≤ 64) × (m ≤ 62)
  few = (d.form.in_order.arranged.pin_codes.few, omega (arith, steiner_few_lem s v.state, steiner_count_lem q d.form.in_order.arranged))

  -- The arrays up to their counts.
  abbrev pins : List ℕ
  pins = take n q.pins

  abbrev steiner : List ℕ
  steiner = take m q.steiner

  pub pins_long : length pins ≡ n
  pins_long = length-take-le n q.pins (omega (arith, few.0, d.form.in_order.arranged.pin_codes.size))

  pub steiner_long : length steiner ≡ m
  steiner_long = length-take-le m q.steiner (omega (arith, few.1, d.form.in_order.arranged.steiner_codes.size))

  -- Whether all pins are sensors, which `bare` says.
  module _ {bare : Bool} (is-bare : bare ≡ sensors_only c.kinds) where
    -- The lengths of the sections.
    lengths : sizes_of n m (n + m - 1) bare ≡ map length (sections_of c)
    lengths =
        let pins = sym (pins-count q d.form.in_order.arranged) in
        let taps = sym (steiner_count_lem q d.form.in_order.arranged) in
        let runs = sym (count_is d.form v.state) ∙ edge_count_lem d.form in
        (λ i. sizes_of (pins i) (taps i) (runs i) (is-bare i)) ∙ sym (sizes_are c v)

    pub file-long : file_size (sizes_of n m (n + m - 1) bare) ≡ length (file_of c)
    unfolding file_of
    file-long = ap file_size lengths ∙ sym (sections_length (sections_of c))

    -- The same by the arrays up to their counts, with those of the edges in `row`.
    module _ {row : List ℕ} (is : row ≡ edge_row s) (long : d.form.nkeys ≤ length row) where
      abbrev ends : List ℕ
      ends = take d.form.nkeys row

      ends_long : length ends ≡ n + m - 1
      ends_long = length-take-le d.form.nkeys row long ∙ count_is d.form v.state

      sizes : sizes_of (length pins) (length steiner) (length ends) bare ≡ map length (sections_of c)
      sizes = (λ i. sizes_of (pins_long i) (steiner_long i) (ends_long i) bare) ∙ lengths

      pub file_parts_lem : file_parts pins steiner ends (take n d.kinds) bare ≡ file_of c
      unfolding file_of section_file flatten
      file_parts_lem =
          (λ i. (header (sizes i) ++ (section_is pins i ++ (section_is steiner i ++ runs i)))
          ++ flatten (kind_sections (is-bare i) c.kinds))
          ∙ append_assoc (header (map length (sections_of c))) (P ++ (T ++ R)) K
          ∙ ap (λ (l : List ℕ). header (map length (sections_of c)) ++ l) (append_assoc P (T ++ R) K ∙ ap (λ (l : List ℕ). P ++ l) (append_assoc T R K))
        where
          P : List ℕ
          P = section_of s.pins

          T : List ℕ
          T = section_of s.steiner

          R : List ℕ
          R = run_section s

          K : List ℕ
          K = flatten (kind_sections (sensors_only c.kinds) c.kinds)

          runs : edge_bytes ends ≡ run_section s
          runs = ap (λ (l : List ℕ). edge_bytes (take d.form.nkeys l)) is ∙ edges_are d.form v.state

      -- There is room for the file.
      pub parts_fit : (out : List ℕ) → length (file_of c) ≤ length out → PartsFit pins steiner ends bare out
      unfolding file_of
      parts_fit out fits =
          record {
            pins_few = omega (arith, few.0, pins_long);
            steiner_few = omega (arith, few.1, steiner_long);
            ends_few = omega (arith, ends_long, few.0, few.1);
            room = omega (arith, ap file_size sizes ∙ sym (sections_length (sections_of c)), fits);
          }
