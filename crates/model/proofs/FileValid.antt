-- An accepted file shows valid contents. Reading passes all its tests before it answers a deck; a plain file shows no Steiner
-- point, and any other passes the test of validity. Its kinds are those of sensors, or pass check 15.
use mathlib.Core.Path.{◌≡◌, refl, sym, ap, ◌∙◌, subst, subst⁻¹}
use mathlib.Core.Logic.{◌⊎◌, inl, inr, ⊎_elim, ◌↔◌}
use mathlib.Core.Bool.{Bool, true, false, ◌&&◌, ◌||◌}
use mathlib.Core.List.Memᴰ.{not-nil}
use mathlib.Core.List.{List, [], ◌∷◌, Memᴰ}
use Prim.Native.Nat.{ℕ, zero, suc, ◌≤◌}
use native.Mathlib.Omega.{arith}
use lib.Dec.{T, leb, leb→le, le→leb, eqb, eqb→eq}
use lib.ListN.{length, take, drop}
use Rattle.arrays.specs.Set.{all}
use Rattle.arrays.specs.Test.{if}
use Rattle.arrays.proofs.Test.{and_parts, and_both}
use Rattle.model.specs.Refusal.{Pass}
use Rattle.model.specs.State.{max_pins, Placed, Valid, placed, valid}
use Rattle.model.specs.DeviceKinds.{is_kind, sensors}
use Rattle.model.specs.Contents.{Contents, with_kinds, ValidContents}
use Rattle.arrays.specs.Same.{same_list}
use Rattle.arrays.proofs.Alike.{same_refl, same_eq}
use Rattle.model.specs.Sections.{magic, count_place, section_count, section, offset, size, laid_out}
use Rattle.model.specs.File.{fewest_sections, most_sections, shortest, longest, headed, whole, plain, has_kinds, kinds_place, all_kinds, shows_kinds}
use Rattle.model.specs.File.{deck, file_checks, read_file, file_state, file_contents, points_of, run_section}
use Rattle.model.proofs.Refusal.{file-taken}
use Rattle.model.proofs.Validity.{placed_is, valid_is}
use Rattle.model.proofs.DeviceKinds.{kinds-known, of_state-valid}

either : (a b : Bool) → T (a || b) → T a ⊎ T b
either true b t = inl tt
either false b t = inr t

either_of : (a b : Bool) → T a ⊎ T b → T (a || b)
either_of true b t = tt
either_of false b (inl t) = absurd t
either_of false b (inr t) = t

-- Check 1, one test by one.
pub record Headed (b : List ℕ) : Type 0 where
  pub long : shortest ≤ length b
  pub short : length b ≤ longest
  pub letters : take count_place b ≡ magic
  pub fewest : fewest_sections ≤ section_count b
  pub most : section_count b ≤ most_sections

pub headed_is : (b : List ℕ) → T (headed b) ↔ Headed b
headed_is b = (
  λ t. let h = and_parts (leb shortest (length b)) _ t in
      let k = and_parts (leb (length b) longest) _ h.1 in
      let l = and_parts (same_list (take count_place b) magic) _ k.1 in
      let m = and_parts (leb fewest_sections (section_count b)) _ l.1 in
      record {
        long = leb→le shortest (length b) h.0;
        short = leb→le (length b) longest k.0;
        letters = same_eq (take count_place b) magic l.0;
        fewest = leb→le fewest_sections (section_count b) m.0;
        most = leb→le (section_count b) most_sections m.1;
      },
  λ h. and_both (leb shortest (length b)) _ (le→leb shortest (length b) h.long)
      (and_both (leb (length b) longest) _ (le→leb (length b) longest h.short)
      (and_both (same_list (take count_place b) magic) _ (subst⁻¹ (λ (l : List ℕ). T (same_list l magic)) h.letters (same_refl magic))
      (and_both (leb fewest_sections (section_count b)) _ (le→leb fewest_sections (section_count b) h.fewest)
      (le→leb (section_count b) most_sections h.most)))),
)

-- What reading a file to a deck asks of the file.
pub record Accepted (b : List ℕ) (c : Contents) : Type 0 where
  pub header : T (headed b)
  pub layout : T (laid_out b)
  pub wholes : T (whole b)
  pub few : length c.state.pins ≤ max_pins
  pub points : Placed c.state
  pub shows : T (plain b) ⊎ (Valid c.state × T (same_list (section b 2) (run_section c.state)))
  pub kinds : T (shows_kinds b)
  pub same : file_contents b ≡ c

pub accepted : (b : List ℕ) (c : Contents) → read_file b ≡ deck c → Accepted b c
accepted b c e =
    let t = (file-taken b c).0 e in
    let p = t.0 in
    subst (Accepted b) t.1
    (record {
      header = p.0;
      layout = p.1.0;
      wholes = p.1.1.0;
      few = leb→le (length (file_state b).pins) max_pins p.1.1.1.0;
      points = (placed_is (file_state b)).0 p.1.1.1.1.0;
      shows = ⊎_elim inl
          (λ t. let v = and_parts (valid (file_state b)) (same_list (section b 2) (run_section (file_state b))) t in inr ((valid_is (file_state b)).0 v.0, v.1))
          (either (plain b) (valid (file_state b) && same_list (section b 2) (run_section (file_state b))) p.1.1.1.1.1.0);
      kinds = p.1.1.1.1.1.1.0;
      same = refl;
    })

pub accept : (b : List ℕ) (c : Contents) → Accepted b c → read_file b ≡ deck c
accept b c a = (file-taken b c).1 (by (subst⁻¹ (Accepted b) a.same a), a.same)
  where
    by : Accepted b (file_contents b) → Pass (file_checks b)
    by r = (
      r.header,
      (
        r.layout,
        (
          r.wholes,
          (
            le→leb (length (file_state b).pins) max_pins r.few,
            (
              (placed_is (file_state b)).1 r.points,
              (
                either_of (plain b) (valid (file_state b) && same_list (section b 2) (run_section (file_state b)))
                    (⊎_elim inl
                    (λ v. inr (and_both (valid (file_state b)) (same_list (section b 2) (run_section (file_state b))) ((valid_is (file_state b)).1 v.0) v.1))
                    r.shows),
                (r.kinds, tt),
              ),
            ),
          ),
        ),
      ),
    )

-- A section of no bytes holds no point.
none_of : (n : ℕ) (l : List ℕ) → T (eqb n 0) → points_of (take n l) ≡ []
unfolding points_of
none_of zero [] t = refl
none_of zero (x ∷ l) t = refl
none_of (suc n) l t = let e : suc n ≡ 0 = eqb→eq (suc n) 0 t in absurd (omega arith)

-- The kinds that a file shows, where its state is valid and check 15 passes.
kinds-valid : (b : List ℕ) → Valid (file_state b) → T (shows_kinds b) → ValidContents (file_contents b)
kinds-valid b v t = go (has_kinds b) t
  where
    go : (has : Bool) → T (if has (λ _. all_kinds (section b kinds_place) (length (file_state b).pins)) (λ _. true))
        → ValidContents (with_kinds (file_state b) (if has (λ _. section b kinds_place) (λ _. sensors (file_state b).pins)))
    go true t =
        let kinds = section b kinds_place in
        let p = and_parts (eqb (length kinds) (length (file_state b).pins)) _ t in
        let q = and_parts (all is_kind kinds) _ p.1 in
        record {
          state = v;
          kind_count = eqb→eq (length kinds) (length (file_state b).pins) p.0;
          known = (kinds-known kinds).0 q.0;
          tailed = omega arith;
        }
    go false t = of_state-valid v

pub file-valid : (b : List ℕ) (c : Contents) → read_file b ≡ deck c → ValidContents c
file-valid b c e =
    let a = accepted b c e in
    subst ValidContents a.same (kinds-valid b (subst⁻¹ (λ (d : Contents). Valid d.state) a.same (go a)) a.kinds)
  where
    go : Accepted b c → Valid c.state
    go a =
        ⊎_elim (λ t. record { few = a.few; placed = a.points; branching = λ q i. absurd (not-nil (subst (λ l. Memᴰ q l) (none t) i)) })
        (λ v. v.0) a.shows
      where
        none : T (plain b) → c.state.steiner ≡ []
        none t =
            sym (ap (λ (d : Contents). d.state.steiner) a.same) ∙ none_of (size b 1) (drop (offset b 1) b)
            (and_parts (eqb (size b 1) 0) (eqb (size b 2) 0) t).0
