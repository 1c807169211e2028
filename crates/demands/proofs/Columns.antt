-- The columns of a sound deck, from the claims on points: what the deck answers is the answer for its contents, and the tap of a round is the candidate
-- that its own column names.
use mathlib.Core.Path.{◌≡◌, refl, sym, ap, ◌∙◌, subst}
use mathlib.Core.Logic.{◌⊎◌, inl, inr, ⊎_elim, ◌↔◌}
use mathlib.Core.List.{List}
use Prim.Native.Nat.{ℕ}
use native.Mathlib.Omega.{arith}
use lib.Dec.{T, T_not}
use lib.IntN.{ℤ, pos}
use lib.Signed.{lt_z}
use Rattle.arrays.proofs.Order.{before-later}
use Rattle.arrays.proofs.Test.{then_by_cases}
use Rattle.plane.specs.Point.{Point, point, lower, Lower}
use Rattle.plane.proofs.Order.{whole-order}
use Rattle.model.specs.State.{points}
use Rattle.model.specs.Choice.{saved, Chosen}
use Rattle.model.specs.Choice as model
use Rattle.model.specs.Call as call
use Rattle.std.specs.Prelude.{Some, None}
use Rattle.columns.specs.declared.Candidate.{Candidate}
use Rattle.columns.specs.Column.{ColumnAnswer, no_candidate, chosen, column_answer, ChosenAt}
use Rattle.columns.specs.Found.{choice_of}
use Rattle.columns.proofs.Claims as claims
use Rattle.calls.specs.declared.Reply.TheVariants as reply
use Rattle.questions.specs.declared.Answer.TheVariants.{Column}
use Rattle.questions.specs.Answers.{of_column}
use Rattle.deck.specs.declared.Deck.{Deck}
use Rattle.deck.specs.Form.{state_of, Sound}
use Rattle.deck.specs.Calls.{called}
use Rattle.deck.specs.Questions.{asked}
use Rattle.demands.specs.Columns.{Names, DeckColumns}
use Rattle.demands.proofs.Method.{answered, round_of}

-- The answer as an enum says which it is.
names_is : (a : ColumnAnswer) (u y v : ℤ) → (Column (choice_of a) ≡ Column (Some (record { x = u; y = y; saving = v }))) ↔ (a ≡ chosen (point u y) v)
names_is no_candidate u y v = (
  λ e. let z : ◌≡◌ {A = ℕ} 0 1 = cc in absurd (omega arith),
  λ e. let z : ◌≡◌ {A = ℕ} 0 1 = cc in absurd (omega arith),
)
names_is (chosen c n) u y v = (
  λ e. let same : ◌≡◌ {A = Candidate} (record { x = c.x; y = c.y; saving = n }) (record { x = u; y = y; saving = v }) = cc in
      ap (λ (k : Candidate). chosen (point k.x k.y) k.saving) same,
  λ e. ap (λ (a : ColumnAnswer). Column (choice_of a)) e,
)

empty_is : (a : ColumnAnswer) → (Column (choice_of a) ≡ Column None) ↔ (a ≡ no_candidate)
empty_is no_candidate = (λ _. refl, λ _. refl)
empty_is (chosen c n) = (
  λ e. let z : ◌≡◌ {A = ℕ} 0 1 = cc in absurd (omega arith),
  λ e. let z : ◌≡◌ {A = ℕ} 0 1 = cc in absurd (omega arith),
)

-- A candidate that a round chooses is chosen among those with its x.
chosen-there : (tail : ℕ) (ps : List Point) (c : Point) → Chosen tail ps c → ChosenAt tail ps c.x c
chosen-there tail ps c h =
    record { candidate = h.candidate; there = refl; most = λ d k _. h.most d k; lowest = λ d k _. h.lowest d k }

-- A higher point is not further left.
not_left : (c d : Point) → Lower c d → (d.x ≡ c.x) ⊎ T (lt_z c.x d.x)
unfolding lower
not_left c d h =
    ⊎_elim (λ l. inr l)
    (λ r. ⊎_elim (λ l. inr l) (λ q. ⊎_elim (λ e. inl (sym e)) (λ l. absurd (T_not (lt_z d.x c.x) r.1 l)) q) (whole-order.compare c.x d.x))
    (then_by_cases (lt_z c.x d.x) (lt_z d.x c.x) (λ _. lt_z c.y d.y) h)

module _ (d : Deck) (s : Sound d) where
  abbrev ps : List Point
  ps = points (state_of d)

  named : (x u y v : ℤ) → Names d x u y v ↔ (ChosenAt d.tail ps x (point u y) × (v ≡ saved d.tail ps (point u y)))
  named x u y v =
      let n = (claims.columns d.tail ps).names x (point u y) v in
      let a = names_is (column_answer d.tail ps x) u y v in
      (λ e. n.0 (a.0 (sym (answered d s (of_column x)) ∙ e)), λ h. answered d s (of_column x) ∙ a.1 (n.1 h))

  emptied : (x : ℤ) → (asked d (of_column x) ≡ Column None) ↔ ((c : Point) → model.Candidate ps c → ¬ (c.x ≡ x))
  emptied x =
      let n = (claims.columns d.tail ps).empty x in
      let a = empty_is (column_answer d.tail ps x) in
      (λ e. n.0 (a.0 (sym (answered d s (of_column x)) ∙ e)), λ h. answered d s (of_column x) ∙ a.1 (n.1 h))

  -- No saving is above that of the candidate which its column names.
  over : (c : Point) → model.Candidate ps c → (u y v : ℤ) × Names d c.x u y v × ¬ T (lt_z v (saved d.tail ps c))
  over c k = go (column_answer d.tail ps c.x) refl
    where
      go : (a : ColumnAnswer) → column_answer d.tail ps c.x ≡ a → (u y v : ℤ) × Names d c.x u y v × ¬ T (lt_z v (saved d.tail ps c))
      go no_candidate e = absurd (((claims.columns d.tail ps).empty c.x).0 e c k refl)
      go (chosen b v) e =
          let h = ((claims.columns d.tail ps).names c.x b v).0 e in
          let n = (named c.x b.x b.y v).1 h in
          (b.x, b.y, v, n, λ t. h.0.most c k refl (subst (λ (z : ℤ). T (lt_z z (saved d.tail ps c))) h.1 t))

  finished : ((called d call.one_round).reply ≡ reply.Finished) ↔ ((x u y v : ℤ) → Names d x u y v → ¬ T (lt_z (pos 0) v))
  finished = (
    λ e x u y v n t.
        let h = (named x u y v).0 n in
        (round_of d s).finished.0 e (point u y) h.0.candidate (subst (λ (z : ℤ). T (lt_z (pos 0) z)) h.1 t),
    λ f. (round_of d s).finished.1 (λ c k t.
        let r = over c k in
        f c.x r.0 r.1 r.2 r.3 (before-later whole-order (pos 0) r.2 (saved d.tail ps c) t r.4)),
  )

  tap : (x y : ℤ) (fall : ℕ) → (called d call.one_round).reply ≡ reply.Tap x y fall
      → (v : ℤ) × Names d x x y v × T (lt_z (pos 0) v) × ((z u w n : ℤ) → Names d z u w n → ¬ T (lt_z v n) × (n ≡ v → (z ≡ x) ⊎ T (lt_z x z)))
  tap x y fall e =
      let h = (round_of d s).chosen x y fall e in
      let v = saved d.tail ps (point x y) in (
        v,
        (named x x y v).1 (chosen-there d.tail ps (point x y) h, refl),
        h.saves,
        λ z u w n m.
            let k = (named z u w n).0 m in (
              λ t. h.most (point u w) k.0.candidate (subst (λ (q : ℤ). T (lt_z v q)) k.1 t),
              λ q. subst (λ (a : ℤ). (a ≡ x) ⊎ T (lt_z x a)) k.0.there
                  (⊎_elim (λ i. inl (ap (λ (p : Point). p.x) i)) (not_left (point x y) (point u w))
                  (h.lowest (point u w) k.0.candidate (sym k.1 ∙ q))),
            ),
      )

  pub deck-columns : DeckColumns d
  deck-columns = record { names = named; empty = emptied; finished = finished; tap = tap; columns = claims.columns d.tail ps }
