-- Written out and read in is the same deck; a full file read in and written out is the same file. The file of valid contents is accepted, since
-- its sections are read back (Sections); an accepted file is made of its sections, which are those of its contents.
use mathlib.Core.Path.{◌≡◌, refl, sym, ap, ◌∙◌, subst⁻¹}
use mathlib.Core.Logic.{◌⊎◌, inl, inr, ⊎_elim}
use mathlib.Core.Bool.{not}
use mathlib.Core.List.{List, [], ◌∷◌, Memᴰ}
use Prim.Native.Nat.{ℕ, ◌%◌, ◌≤◌, ◌<◌}
use native.Mathlib.Omega.{arith}
use lib.Dec.{T, T_not, eqb, eqb→eq}
use lib.Ieee.Fits.{eq→eqb}
use lib.ListN.{length}
use Rattle.arrays.proofs.Test.{and_parts, and_both}
use Rattle.model.specs.State.{points}
use Rattle.model.specs.DeviceKinds.{sensors_only}
use Rattle.model.specs.Contents.{Contents, with_kinds, with_tail, ValidContents}
use Rattle.model.specs.Tail.{no_tail}
use Rattle.model.specs.Question.{listed}
use Rattle.arrays.specs.Same.{same_list}
use Rattle.model.specs.Sections.{header_size, section_file, section_count, offset, size, section, Follow}
use Rattle.model.specs.File.{fewest_sections, plain, section_of, points_of, run_section, kind_sections, sections_with, sections_of, file_of}
use Rattle.model.specs.File.{file_state, file_kinds, deck, read_file}
use Rattle.model.proofs.Prune.{points-rise}
use Rattle.model.proofs.Bounds.{points-count, edges_fewer}
use Rattle.model.proofs.Bytes.{points-section, section_points_lem, section-length}
use Rattle.model.proofs.FileSize.{file_size_lem, listed-count, runs-length}
use Rattle.arrays.proofs.Alike.{same_refl, same_eq}
use Rattle.model.proofs.Sections.{laid_out_is, follow-within, section-within, Laid, file_laid, shows-follow, part_bytes, part_length}
use Rattle.model.proofs.Sections.{sections_from, file_made}
use Rattle.model.proofs.FileValid.{Headed, headed_is, Accepted, accepted, accept, file-valid}
use Rattle.model.proofs.FileKinds.{sections_few, three_or_four, kinds_laid, three_made, four_made}

-- A file of the sections of valid contents, with any bytes for runs that pass check 6, shows the contents without their tail.
pub laid_accepted : (b : List ℕ) (c : Contents) → ValidContents c → (runs : List ℕ) → length runs % 2 ≡ 0
    → T (plain b) ⊎ (section b 2 ≡ runs → T (same_list (section b 2) (run_section c.state)))
    → 30 ≤ length b → length b ≤ 856 → Laid b (sections_with runs c) → Accepted b (with_tail no_tail c)
laid_accepted b c v runs even shown long short h =
    let pins = h.parts in
    let taps = pins.3 in
    let last = taps.3 in
    let few = sections_few c in
    let count = h.count in
    let follow = shows-follow b (sections_with runs c) 0 (header_size (length (sections_with runs c))) h.parts in
    record {
      header =
          (headed_is b).1
          (record {
            long = long;
            short = short;
            letters = h.letters;
            fewest = omega (arith, count, few.0);
            most = omega (arith, count, few.1);
          });
      layout =
          (laid_out_is b).1
          (subst⁻¹ (λ (n : ℕ). (header_size n ≤ length b) × Follow b (header_size n) 0 n) count
          (follow-within b (length (sections_with runs c)) (header_size (length (sections_with runs c))) 0 follow, follow));
      wholes =
          and_both (eqb (size b 0 % 4) 0) _ (eq→eqb {a = size b 0 % 4} {b = 0} (omega (arith, pins.1, section-length c.state.pins)))
          (and_both (eqb (size b 1 % 4) 0) _ (eq→eqb {a = size b 1 % 4} {b = 0} (omega (arith, taps.1, section-length c.state.steiner)))
          (eq→eqb {a = size b 2 % 2} {b = 0} (omega (arith, last.1, even))));
      few = v.state.few;
      points = v.state.placed;
      shows = ⊎_elim inl (λ s. inr (v.state, s last.2)) shown;
      kinds = (kinds_laid b c v pins_are count _ last.3).0;
      same = λ i. with_kinds (record { pins = pins_are i; steiner = steiner_are i }) ((kinds_laid b c v pins_are count _ last.3).1 i);
    }
  where
    pins_are : (file_state b).pins ≡ c.state.pins
    pins_are = ap points_of h.parts.2 ∙ points-section c.state.pins v.state.placed.pins_range

    steiner_are : (file_state b).steiner ≡ c.state.steiner
    steiner_are = ap points_of h.parts.3.2 ∙ points-section c.state.steiner v.state.placed.steiner_range

-- The deck of valid contents, written out and read in, is the same deck but for its tail.
pub written_read_lem : (c : Contents) → ValidContents c → read_file (file_of c) ≡ deck (with_tail no_tail c)
unfolding file_of
written_read_lem c v =
    let size = file_size_lem c v in
    accept (file_of c) (with_tail no_tail c)
    (laid_accepted (file_of c) c v (run_section c.state) (omega (arith, runs-length (points c.state) (listed c.state)))
    (inr (λ e. subst⁻¹ (λ (l : List ℕ). T (same_list l (run_section c.state))) e (same_refl (run_section c.state))))
    size.0 size.1 (file_laid (sections_of c) (omega (arith, (sections_few c).1)) (omega (arith, size.1))))

no_byte : (l : List ℕ) → length l ≡ 0 → l ≡ []
no_byte [] e = refl
no_byte (a ∷ l) e = absurd (omega arith)

-- What the checks of an accepted file say of its sections.
record Parted (b : List ℕ) : Type 0 where
  headed : Headed b
  room : header_size (section_count b) ≤ length b
  follow : Follow b (header_size (section_count b)) 0 (section_count b)
  lengths : (k : ℕ) → k < fewest_sections → length (section b k) ≡ size b k
  whole₀ : size b 0 % 4 ≡ 0
  whole₁ : size b 1 % 4 ≡ 0

parted : (b : List ℕ) (c : Contents) → Accepted b c → Parted b
parted b c a =
    let h = (headed_is b).0 a.header in
    let layout = (laid_out_is b).0 a.layout in
    let w₁ = and_parts (eqb (size b 0 % 4) 0) _ a.wholes in
    let w₂ = and_parts (eqb (size b 1 % 4) 0) _ w₁.1 in
    record {
      headed = h;
      room = layout.0;
      follow = layout.1;
      lengths = λ k l. part_length b (offset b k) (size b k)
          (section-within b (section_count b) _ 0 layout.1 k (omega arith) (omega (arith, h.fewest))).1;
      whole₀ = eqb→eq (size b 0 % 4) 0 w₁.0;
      whole₁ = eqb→eq (size b 1 % 4) 0 w₂.0;
    }

-- A full file that is read is written back byte for byte; so is a file of 0 or 1 pin, which is of both kinds.
pub full_written_back_lem : (b : List ℕ) (c : Contents) → ((x : ℕ) → Memᴰ x b → x < 256) → read_file b ≡ deck c
    → T (not (plain b)) ⊎ (length c.state.pins ≤ 1) → file_of c ≡ b
unfolding file_of
full_written_back_lem b c h e full =
    ap section_file (⊎_elim three four (three_or_four (section_count b) d.headed.fewest d.headed.most))
    ∙ file_made b h d.headed.letters d.room d.follow
  where
    a : Accepted b c
    a = accepted b c e

    d : Parted b
    d = parted b c a

    pins : section_of c.state.pins ≡ section b 0
    pins =
        ap (λ (r : Contents). section_of r.state.pins) (sym a.same)
        ∙ section_points_lem (section b 0) (part_bytes b (offset b 0) (size b 0) h) (omega (arith, d.lengths 0 (omega arith), d.whole₀))

    taps : section_of c.state.steiner ≡ section b 1
    taps =
        ap (λ (r : Contents). section_of r.state.steiner) (sym a.same)
        ∙ section_points_lem (section b 1) (part_bytes b (offset b 1) (size b 1) h) (omega (arith, d.lengths 1 (omega arith), d.whole₁))

    -- With at most one pin and no tap there is no run.
    bare : T (plain b) → length c.state.pins ≤ 1 → run_section c.state ≡ section b 2
    bare t k =
        let s = c.state in
        let p = and_parts (eqb (size b 1) 0) (eqb (size b 2) 0) t in
        let z₁ : size b 1 ≡ 0 = eqb→eq (size b 1) 0 p.0 in
        let z₂ : size b 2 ≡ 0 = eqb→eq (size b 2) 0 p.1 in
        no_byte (run_section s)
        (omega (
          arith,
          runs-length (points s) (listed s),
          listed-count s a.points,
          edges_fewer (points s) 0 (points-rise s a.points.steiner_rise)
              (omega (arith, points-count s (file-valid b c e).state, section-length s.steiner, ap length taps, d.lengths 1 (omega arith))),
        ))
        ∙ sym (no_byte (section b 2) (d.lengths 2 (omega arith) ∙ z₂))

    runs : T (not (plain b)) ⊎ (length c.state.pins ≤ 1) → run_section c.state ≡ section b 2
    runs k =
        ⊎_elim (λ t. ⊎_elim (λ n. absurd (T_not (plain b) n t)) (bare t) k) (λ v. sym (same_eq (section b 2) (run_section c.state) v.1)) a.shows

    -- The kinds, by the number of sections.
    shown : file_kinds b ≡ c.kinds
    shown = ap (λ (r : Contents). r.kinds) a.same

    made : {l : List (List ℕ)} → kind_sections (sensors_only c.kinds) c.kinds ≡ l → sections_of c ≡ section b 0 ∷ section b 1 ∷ section b 2 ∷ l
    made e = λ i. pins i ∷ taps i ∷ runs full i ∷ e i

    three : section_count b ≡ 3 → sections_of c ≡ sections_from b 0 (section_count b)
    three n = made (three_made b c shown a.kinds n) ∙ ap (sections_from b 0) (sym n)

    four : section_count b ≡ 4 → sections_of c ≡ sections_from b 0 (section_count b)
    four n = made (four_made b c shown a.kinds n) ∙ ap (sections_from b 0) (sym n)
