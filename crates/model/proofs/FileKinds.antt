-- The kinds in a file: one of three sections shows sensors, one of four the kinds of its fourth. So the sections of contents are read back
-- with their kinds, and an accepted file has the sections of its kinds.
use mathlib.Core.Path.{◌≡◌, refl, sym, ap, ◌∙◌, subst, subst⁻¹}
use mathlib.Core.Logic.{◌↔◌, ◌⊎◌, inl, inr, ⊎_elim}
use mathlib.Core.Bool.{Bool, true, false, not}
use mathlib.Core.List.{List, [], ◌∷◌, Memᴰ}
use Prim.Native.Nat.{ℕ, suc, ◌≤◌}
use native.Mathlib.Decide.{dec_le}
use native.Mathlib.Omega.{arith}
use lib.Dec.{T, T_not, not_T, eqb, eqb→eq, ltb→lt, nltb→le}
use lib.Ieee.Fits.{eq→eqb}
use lib.ListN.{length, replicate}
use borrow.Author.Tests.{le-ltb, lt-ltb}
use Rattle.arrays.specs.Set.{all}
use Rattle.arrays.specs.Test.{if}
use Rattle.arrays.proofs.Test.{and_parts, and_both, true_of, false_of, of_true}
use Rattle.plane.specs.Point.{Point}
use Rattle.model.specs.DeviceKinds.{sensor, is_kind, sensors, sensors_only}
use Rattle.model.specs.Contents.{Contents, kind_at, ValidContents}
use Rattle.model.specs.Sections.{section_count, section}
use Rattle.model.specs.File.{kinds_place, kind_sections, sections_of, file_of, has_kinds, file_state, file_kinds, all_kinds, shows_kinds, ShowsKinds}
use Rattle.model.proofs.FileSize.{file_size_lem}
use Rattle.model.proofs.DeviceKinds.{kinds-known, sensors_are, sensors_pass, some_other, not_sensors, some_device}
use Rattle.model.proofs.Sections.{Shows, file_laid}

-- The section of kinds, by whether all are sensors.
pub sections_bare : (kinds : List ℕ) → T (sensors_only kinds) → kind_sections (sensors_only kinds) kinds ≡ []
sections_bare kinds t = ap (λ (bare : Bool). kind_sections bare kinds) (true_of (sensors_only kinds) t)

pub sections_kinds : (kinds : List ℕ) → ¬ T (sensors_only kinds) → kind_sections (sensors_only kinds) kinds ≡ kinds ∷ []
sections_kinds kinds n = ap (λ (bare : Bool). kind_sections bare kinds) (false_of (sensors_only kinds) n)

-- How many sections there are with pins, taps and runs in front.
abbrev three_and : List (List ℕ) → ℕ
three_and l = suc (suc (suc (length l)))

-- A file of contents has three or four sections.
pub sections_few : (c : Contents) → (3 ≤ length (sections_of c)) × (length (sections_of c) ≤ 4)
sections_few c = go (sensors_only c.kinds)
  where
    go : (bare : Bool) → (3 ≤ three_and (kind_sections bare c.kinds)) × (three_and (kind_sections bare c.kinds) ≤ 4)
    go true = (omega arith, omega arith)
    go false = (omega arith, omega arith)

pub three_or_four : (n : ℕ) → 3 ≤ n → n ≤ 4 → (n ≡ 3) ⊎ (n ≡ 4)
three_or_four n l m = go (dec_le n 3)
  where
    go : Dec (n ≤ 3) → (n ≡ 3) ⊎ (n ≡ 4)
    go (yes h) = inl (omega arith)
    go (no h) = inr (omega arith)

module _ (b : List ℕ) where
  abbrev pins : List Point
  pins = (file_state b).pins

  abbrev file_kinds_lem : List ℕ
  file_kinds_lem = section b kinds_place

  -- A file of three sections.
  pub three-kinds : section_count b ≡ 3 → T (shows_kinds b) × (file_kinds b ≡ sensors pins)
  three-kinds e =
      let none : has_kinds b ≡ false = le-ltb kinds_place (section_count b) (omega (arith, e)) in (
        subst⁻¹ (λ (has : Bool). T (if has (λ _. all_kinds (section b kinds_place) (length pins)) (λ _. true))) none tt,
        ap (λ (has : Bool). if has (λ _. section b kinds_place) (λ _. sensors pins)) none,
      )

  -- One of four.
  module _ (e : section_count b ≡ 4) where
    has : has_kinds b ≡ true
    has = lt-ltb kinds_place (section_count b) (omega (arith, e))

    pub four-kinds : file_kinds b ≡ section b kinds_place
    four-kinds = ap (λ (t : Bool). if t (λ _. section b kinds_place) (λ _. sensors pins)) has

    pub four_shown : shows_kinds b ≡ all_kinds (section b kinds_place) (length pins)
    four_shown = ap (λ (t : Bool). if t (λ _. all_kinds (section b kinds_place) (length pins)) (λ _. true)) has

  -- Check 15, apart from its test.
  pub shows_kinds_is : T (shows_kinds b) ↔ ShowsKinds b
  shows_kinds_is = go (has_kinds b) refl
    where
      go : (t : Bool) → has_kinds b ≡ t
          → T (if t (λ _. all_kinds (section b kinds_place) (length pins)) (λ _. true)) ↔ ShowsKinds b
      go true e = (
        λ t. let p = and_parts (eqb (length file_kinds_lem) (length pins)) _ t in
            let q = and_parts (all is_kind file_kinds_lem) _ p.1 in
            inr (
              eqb→eq (length file_kinds_lem) (length pins) p.0,
              (kinds-known file_kinds_lem).0 q.0,
              some_other file_kinds_lem (T_not (sensors_only file_kinds_lem) q.1),
            ),
        ⊎_elim (λ h. absurd (omega (arith, h, ltb→lt kinds_place (section_count b) (of_true e))))
            (λ h. and_both (eqb (length file_kinds_lem) (length pins)) _ (eq→eqb {a = length file_kinds_lem} {b = length pins} h.0)
            (and_both (all is_kind file_kinds_lem) _ ((kinds-known file_kinds_lem).1 h.1)
            (not_T (sensors_only file_kinds_lem) (not_sensors file_kinds_lem h.2.0 h.2.1 h.2.2)))),
      )
      go false e = (
        λ t. inl (nltb→le kinds_place (section_count b) (subst⁻¹ (λ (u : Bool). T (not u)) e tt)),
        λ h. tt,
      )

  -- A file of the sections of valid contents: check 15 passes, and it shows their kinds.
  pub kinds_laid : (c : Contents) → ValidContents c → pins ≡ c.state.pins → section_count b ≡ length (sections_of c)
      → (at : ℕ) → Shows b kinds_place at (kind_sections (sensors_only c.kinds) c.kinds) → T (shows_kinds b) × (file_kinds b ≡ c.kinds)
  kinds_laid c v same count at h = go (sensors_only c.kinds) refl count h
    where
      go : (bare : Bool) → sensors_only c.kinds ≡ bare → section_count b ≡ three_and (kind_sections bare c.kinds)
          → Shows b kinds_place at (kind_sections bare c.kinds) → T (shows_kinds b) × (file_kinds b ≡ c.kinds)
      go true e count h =
          let r = three-kinds count in
          (r.0, r.1 ∙ ap sensors same ∙ ap (λ (n : ℕ). replicate n sensor) (sym v.kind_count) ∙ sym (sensors_are c.kinds (of_true e)))
      go false e count h =
          let shown = h.2 in (
            subst⁻¹ T (four_shown count)
                (subst⁻¹ (λ (l : List ℕ). T (all_kinds l (length pins))) shown
                (and_both (eqb (length c.kinds) (length pins)) _ (eq→eqb {a = length c.kinds} {b = length pins} (v.kind_count ∙ ap length (sym same)))
                (and_both (all is_kind c.kinds) _ ((kinds-known c.kinds).1 v.known)
                (not_T (sensors_only c.kinds) (λ t. subst T e t))))),
            four-kinds count ∙ shown,
          )

  -- The kinds that an accepted file shows have the sections that stand behind its runs.
  module _ (c : Contents) (shown : file_kinds b ≡ c.kinds) (t : T (shows_kinds b)) where
    pub three_made : section_count b ≡ 3 → kind_sections (sensors_only c.kinds) c.kinds ≡ []
    three_made e =
        subst (λ (l : List ℕ). kind_sections (sensors_only l) l ≡ []) (sym (three-kinds e).1 ∙ shown)
        (sections_bare (sensors pins) (sensors_pass (length pins)))

    pub four_made : section_count b ≡ 4 → kind_sections (sensors_only c.kinds) c.kinds ≡ section b kinds_place ∷ []
    four_made e =
        let p = and_parts (eqb (length (section b kinds_place)) (length pins)) _ (subst T (four_shown e) t) in
        let q = and_parts (all is_kind (section b kinds_place)) _ p.1 in
        subst (λ (l : List ℕ). kind_sections (sensors_only l) l ≡ section b kinds_place ∷ []) (sym (four-kinds e) ∙ shown)
        (sections_kinds (section b kinds_place) (T_not (sensors_only (section b kinds_place)) q.1))

-- The file of valid contents has four sections exactly if some pin is no sensor, and else three.
module _ (c : Contents) (v : ValidContents c) where
  count_is : section_count (file_of c) ≡ length (sections_of c)
  unfolding file_of
  count_is = (file_laid (sections_of c) (omega (arith, (sections_few c).1)) (omega (arith, (file_size_lem c v).1))).count

  pub written_count : (section_count (file_of c) ≡ 3) ⊎ (section_count (file_of c) ≡ 4)
  written_count = three_or_four (section_count (file_of c)) (omega (arith, count_is, (sections_few c).0)) (omega (arith, count_is, (sections_few c).1))

  pub four_exactly : (section_count (file_of c) ≡ 4) ↔ ((p : Point) × Memᴰ p c.state.pins × ¬ (kind_at c p ≡ sensor))
  four_exactly = (
    λ e. (some_device c v).0 (λ t. let n : length (kind_sections (sensors_only c.kinds) c.kinds) ≡ 0 = ap length (sections_bare c.kinds t) in
        omega (arith, count_is, e, n)),
    λ d. let n : length (kind_sections (sensors_only c.kinds) c.kinds) ≡ 1 = ap length (sections_kinds c.kinds ((some_device c v).1 d)) in
        omega (arith, count_is, n),
  )
