-- Check 6: the points shown have a working form exactly if they are those of a valid state, and the third section must hold its edges.
use mathlib.Core.Path.{◌≡◌, refl, sym, ap, ap₂, ◌∙◌, subst, subst⁻¹}
use mathlib.Core.Bool.{Bool, true, false, ◌&&◌, ◌||◌}
use mathlib.Core.List.Memᴰ.{not-nil}
use mathlib.Core.List.{List, [], ◌∷◌, ◌++◌, map, Memᴰ}
use Prim.Native.Nat.{ℕ, ◌+◌, ◌-◌, ◌*◌, ◌/◌, ◌≤◌, ◌<◌}
use native.Mathlib.Omega.{arith}
use Rattle.std.specs.Prelude.{Option, Some, None, Result, Err}
use lib.Dec.{T, eqb, eqb→eq}
use lib.Seq.{length-take-le}
use lib.ListN.{length, take, drop, replicate, length-map}
use Rattle.arrays.specs.Test.{if}
use Rattle.arrays.proofs.Test.{and_parts, and_both, same_test, of_true, true_of, false_of}
use Rattle.model.specs.State.{State, Placed, placed, Valid, valid}
use Rattle.arrays.specs.Same.{same_list}
use Rattle.model.specs.Sections.{offset, size, section}
use Rattle.model.specs.File.{Read, deck, refusal, file_state, plain, run_section}
use Rattle.model.proofs.Validity.{placed_is, valid_is}
use Rattle.model.proofs.FileSize.{steiner_few_lem}
use Rattle.arrays.proofs.Alike.{same_eq}
use Rattle.plane.specs.Code.{code}
use Rattle.points.specs.Coded as points
use Rattle.points.specs.Coded.{padded, places, coded, arranged}
use Rattle.points.proofs.Codes.{drop_zeros, padded-take}
use Rattle.points.proofs.Coded.{state-coded, valid-arranged}
use Rattle.points.proofs.check.Tests.{arranged_passes}
use Rattle.deck.specs.Form.{deck_of}
use Rattle.deck.specs.Calls.{outcome_of}
use Rattle.calls.specs.declared.Changed.{Changed}
use Rattle.deck.specs.Check.{valid_points, Forms}
use Rattle.points.specs.declared.Points.{Points}
use Rattle.working.specs.declared.Working.{Working}
use Rattle.working.specs.declared.deck.WorkingDeck.{WorkingDeck}
use Rattle.working.specs.InOrder.{state_of}
use Rattle.edges.specs.Edges.{edge_row}
use Rattle.arrays.specs.Paste.{Pasted}
use Rattle.arrays.proofs.paste.Parts.{front_is}
use Rattle.sections.specs.declared.codes.FilePoints.{FilePoints}
use Rattle.sections.specs.Bytes.{edge_bytes}
use Rattle.sections.specs.Codes.{file_places, Decodes}
use Rattle.sections.specs.Layout.{Sections, FewPins}
use Rattle.deckfile.specs.Reading.{read_outcome}
use Rattle.deckfile.specs.ReadWorking.{TakenAs, ReadTo, contents_read, reply_read, FormOf, WorkingFor, kinds_answer, last_answer}
use Rattle.model.proofs.Sections.{part_length}
use Rattle.sections.proofs.codes.Placed.{inside, pins-count, steiner_count_lem}
use Rattle.writer.proofs.Runs.{edges_are, edges-long}

-- What was read, by an equation of what reading gives.
pub read_as : {r t : Read} (x : Result WorkingDeck ℕ) → r ≡ t → TakenAs r x → TakenAs t x
read_as x e = subst (λ (z : Read). TakenAs z x) e

-- A refusal by its number.
pub refused_by : {r : Read} {n : ℕ} {x : Result WorkingDeck ℕ} → x ≡ Err n → refusal n ≡ r → TakenAs r x
refused_by e f = rw e (sym f)

-- The deck of what reading hands back in working form.
pub read_outcome_lem : (r : Read) (c : Changed) → ReadTo r c → outcome_of c ≡ read_outcome r
unfolding contents_read reply_read read_outcome
read_outcome_lem r c e = (λ i. record { next = deck_of (e.contents i); reply = e.reply i }) ∙ by_cases r
  where
    by_cases : (r : Read) → record { next = deck_of (contents_read r); reply = reply_read r } ≡ read_outcome r
    by_cases (deck c) = refl
    by_cases (refusal n) = refl

-- How many bytes a slice from `at` to at + n has.
pub slice_long : (at n : ℕ) → at + n - at ≡ n
slice_long at n = omega arith

-- The points of a placed state are those of a valid one exactly if the state is valid.
tests : (s : State) → Placed s → valid_points (coded s) ≡ valid s
tests s p =
    same_test (valid_points (coded s)) (valid s)
    (λ t. subst (λ (r : State). T (valid r)) (state-coded s p) (and_parts (arranged (coded s)) (valid (points.state_of (coded s))) t).1)
    (λ t. and_both (arranged (coded s)) (valid (points.state_of (coded s))) (arranged_passes (coded s) (valid-arranged s ((valid_is s).0 t)))
    (subst⁻¹ (λ (r : State). T (valid r)) (state-coded s p) t))

module _ (b : List ℕ) (d : Sections b) (p : T (placed (file_state b))) where
  abbrev s : State
  s = file_state b

  is_placed : Placed s
  is_placed = (placed_is s).0 p

  -- At most 62 Steiner points are found, which fit in the places of a deck.
  module _ (found : FilePoints) (v : ℕ) (e : v ≡ size b 1) (most : size b 1 ≤ 248) (full : length found.steiner ≡ file_places) where
    pub found_within : v / 4 ≤ length found.steiner
    found_within = omega (arith, most)

    pub found_length : v / 4 ≡ length (take (v / 4) found.steiner)
    found_length = sym (length-take-le (v / 4) found.steiner (omega (arith, most)))

    pub found_fits : 0 + length (take (v / 4) found.steiner) ≤ places
    found_fits = omega (arith, found_length, most)

  -- The Steiner points found, put at the front of the deck's places.
  pub steiner-put : (found : FilePoints) → Decodes b found → (v : ℕ) → v ≡ size b 1 → {row : List ℕ} {r : ℕ}
      → Pasted (take (v / 4) found.steiner) (replicate places 0) row 0 r → row ≡ padded places (map code s.steiner)
  steiner-put found k v e f =
      let items : take (v / 4) found.steiner ≡ map code s.steiner =
      ap (take (v / 4)) k.steiner
      ∙ padded-take file_places (map code s.steiner) (v / 4) (length-map s.steiner code ∙ steiner_count_lem b d ∙ ap (λ (z : ℕ). z / 4) (sym e)) in
      front_is f ∙ ap (λ (l : List ℕ). l ++ drop (length l) (replicate places 0)) items
      ∙ ap (λ (l : List ℕ). map code s.steiner ++ l) (drop_zeros (length (map code s.steiner)) places)

  -- The working form of the points found.
  pub working_for : (found : FilePoints) → Decodes b found → (u v : ℕ) → u ≡ size b 0 → v ≡ size b 1 → (row : List ℕ)
      → row ≡ padded places (map code s.steiner) → (r : Option Working)
      → (let q : Points = record { pins = found.pins; npins = u / 4; steiner = row; nsteiner = v / 4 } in Forms (valid_points q) q r) → WorkingFor s r
  unfolding coded
  working_for found k u v e f row g r c =
      let n : u / 4 ≡ length s.pins = ap (λ (z : ℕ). z / 4) e ∙ sym (pins-count b d) in
      let m : v / 4 ≡ length s.steiner = ap (λ (z : ℕ). z / 4) f ∙ sym (steiner_count_lem b d) in
      let q : ◌≡◌ {A = Points} (record { pins = found.pins; npins = u / 4; steiner = row; nsteiner = v / 4 }) (coded s) =
      λ i. record { pins = k.pins i; npins = n i; steiner = g i; nsteiner = m i } in
      by_answer r (subst (λ (t : Bool). Forms t (coded s) r) (tests s is_placed) (subst (λ (z : Points). Forms (valid_points z) z r) q c))
    where
      by_answer : (r : Option Working) → Forms (valid s) (coded s) r → WorkingFor s r
      by_answer None h = h
      by_answer (Some w) h = record { passes = true_of (valid s) h.holds; state = ap points.state_of h.same ∙ state-coded s is_placed }

  -- Whether the file shows a deck, by three tests.
  pick : Bool → Bool → Bool → Read
  pick bare ok same = if (bare || (ok && same)) (λ _. kinds_answer b) (λ _. refusal 6)

  same_edges : Bool
  same_edges = same_list (section b 2) (run_section s)

  by_tests : {x y z : Bool} → plain b ≡ x → valid s ≡ y → same_edges ≡ z → pick x y z ≡ last_answer b
  unfolding last_answer pick same_edges
  by_tests e f g = sym (λ i. pick (e i) (f i) (g i))

  no_steiner : T (plain b) → length s.steiner ≡ 0
  no_steiner t =
      let e : size b 1 ≡ 0 = eqb→eq (size b 1) 0 (and_parts (eqb (size b 1) 0) (eqb (size b 2) 0) t).0 in
      omega (arith, steiner_count_lem b d)

  none_held : {A : Type 0} (l : List A) → length l ≡ 0 → (a : A) → Memᴰ a l → ⊥
  none_held [] e a i = not-nil i
  none_held (x ∷ l) e a i = omega arith

  plain-valid : FewPins b → T (plain b) → T (valid s)
  plain-valid few t =
      (valid_is s).1
      (record {
        few = omega (arith, pins-count b d);
        placed = is_placed;
        branching = λ q i. absurd (none_held s.steiner (no_steiner t) q i);
      })

  -- More than 62 Steiner points.
  pub last_many : (v : ℕ) → v ≡ size b 1 → 248 < v → refusal 6 ≡ last_answer b
  unfolding pick
  last_many v e h =
      by_tests (false_of (plain b) (λ t. let z = no_steiner t in omega (arith, steiner_count_lem b d, d.whole₁)))
      (false_of (valid s) (λ t. omega (arith, steiner_few_lem s ((valid_is s).0 t), steiner_count_lem b d, d.whole₁))) refl

  pub last-invalid : FewPins b → valid s ≡ false → refusal 6 ≡ last_answer b
  unfolding pick
  last-invalid few e = by_tests (false_of (plain b) (λ t. subst T e (plain-valid few t))) e refl

  pub last-plain : plain b ≡ true → kinds_answer b ≡ last_answer b
  unfolding pick
  last-plain f = by_tests f refl refl

  module _ (w : Working) (c : FormOf s w) where
    pub form_valid : Valid (state_of w)
    form_valid = subst⁻¹ Valid c.state ((valid_is s).0 (of_true c.passes))

    module _ (f : plain b ≡ false) where
      compared : (t : Bool) → same_list (section b 2) (run_section (state_of w)) ≡ t → same_edges ≡ t
      unfolding same_edges
      compared t g = ap (λ (x : State). same_list (section b 2) (run_section x)) (sym c.state) ∙ g

      pub last_other : same_list (section b 2) (run_section (state_of w)) ≡ false → refusal 6 ≡ last_answer b
      unfolding pick
      last_other g = by_tests f c.passes (compared false g)

      pub last_same : same_list (section b 2) (run_section (state_of w)) ≡ true → kinds_answer b ≡ last_answer b
      unfolding pick
      last_same g = by_tests f c.passes (compared true g)

-- The third section and the edges of a working form.
module _ (b : List ℕ) (d : Sections b) (w : Working) (v : Valid (state_of w)) where
  third_length : length (section b 2) ≡ size b 2
  third_length = part_length b (offset b 2) (size b 2) (inside b d 2 (omega arith)).1

  pub third_within : (u at : ℕ) → u ≡ size b 2 → at ≡ offset b 2 → at + u ≤ length b
  third_within u at e h = omega (arith, (inside b d 2 (omega arith)).1)

  pub edges_other : (u : ℕ) → u ≡ size b 2 → ¬ (u ≡ 2 * w.nkeys) → false ≡ same_list (section b 2) (run_section (state_of w))
  edges_other u e g =
      sym (false_of (same_list (section b 2) (run_section (state_of w)))
      (λ t. g (let q : length (section b 2) ≡ length (run_section (state_of w)) = ap length (same_eq (section b 2) (run_section (state_of w)) t) in
      omega (arith, third_length, edges-long w v))))

  pub edges_same : (u at : ℕ) (row : List ℕ) → u ≡ size b 2 → at ≡ offset b 2 → row ≡ edge_row (state_of w)
      → same_list (take u (drop at b)) (edge_bytes (take w.nkeys row)) ≡ same_list (section b 2) (run_section (state_of w))
  edges_same u at row e h are =
      ap₂ same_list (ap₂ (λ (z y : ℕ). take z (drop y b)) e h) (ap (λ (l : List ℕ). edge_bytes (take w.nkeys l)) are ∙ edges_are w v)
