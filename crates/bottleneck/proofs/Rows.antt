-- The rows of the table in a merge of two labels: those below the number reached are done, and the rest is as it was.
use mathlib.Core.Path.{◌≡◌, refl, sym, ap, ◌∙◌}
use mathlib.Core.Logic.{◌⊎◌, inl, inr, dite}
use mathlib.Core.List.{List}
use Prim.Native.Nat.{ℕ, ◌+◌, ◌*◌, ◌≤◌, ◌<◌}
use native.Mathlib.Decide.{ℕ_discrete}
use native.Mathlib.Omega.{arith}
use borrow.Author.Tests.{eq-eqb, ne_eqb}
use lib.ListN.{length, take, get_or}
use lib.Seq.{get_or-take, length-take-le}
use Rattle.keys.specs.Keys.{places}
use Rattle.kruskal.specs.Labels.{moved}
use Rattle.kruskal.proofs.Labels.{moved_hit, moved_miss}
use Rattle.bottleneck.specs.Table.{entry, chosen, merged, RowFilled, LabelsMerged}

-- The two outcomes of the test in `chosen`.
pub chosen_hit : (wanted w label old : ℕ) → label ≡ wanted → chosen wanted w label old ≡ w
chosen_hit wanted w label old e = rw (eq-eqb label wanted e)

pub chosen_miss : (wanted w label old : ℕ) → ¬ (label ≡ wanted) → chosen wanted w label old ≡ old
chosen_miss wanted w label old n = rw (ne_eqb label wanted n)

-- Two numbers with one label after the merge: they had one before, and their entry stays, or they had not, and it is w.
pub merged_cases :
    (a b w : ℕ) → ¬ (a ≡ b) → (c d old : ℕ) → moved a b c ≡ moved a b d
    → ((c ≡ d) × (merged a b w c d old ≡ old)) ⊎ (¬ (c ≡ d) × (merged a b w c d old ≡ w))
merged_cases a b w differ c d old e = go (ℕ_discrete c a) (ℕ_discrete d a)
  where
    go : Dec (c ≡ a) → Dec (d ≡ a) → ((c ≡ d) × (merged a b w c d old ≡ old)) ⊎ (¬ (c ≡ d) × (merged a b w c d old ≡ w))
    go (yes p) (yes q) = inl (p ∙ sym q, rw (eq-eqb c a p) (chosen_miss b w d old (λ r. differ (sym q ∙ r))))
    go (yes p) (no q) =
        let other : d ≡ b = sym (moved_miss a b d q) ∙ sym e ∙ moved_hit a b c p in
        inr (λ r. q (sym r ∙ p), rw (eq-eqb c a p) (chosen_hit b w d old other))
    go (no p) (yes q) =
        let other : c ≡ b = sym (moved_miss a b c p) ∙ e ∙ moved_hit a b d q in
        inr (λ r. p (r ∙ q), rw (ne_eqb c a p, eq-eqb c b other) (chosen_hit a w d old q))
    go (no p) (no q) = inl (
      sym (moved_miss a b c p) ∙ e ∙ moved_miss a b d q,
      dite (ℕ_discrete c b) (λ r. rw (ne_eqb c a p, eq-eqb c b r) (chosen_miss a w d old q)) (λ r. rw (ne_eqb c a p, ne_eqb c b r)),
    )

-- A merge by the labels of the first n numbers alone.
pub merged_first : (labels : List ℕ) (a b w n : ℕ) (before after : List ℕ) → n ≤ length labels
    → LabelsMerged (take n labels) a b w (length (take n labels)) before after → LabelsMerged labels a b w n before after
merged_first labels a b w n before after h m u v hu hv =
    let all = length-take-le n labels h in
    rw (get_or-take n labels u 0 hu, get_or-take n labels v 0 hv) at (m u v (rw all hu) (rw all hv))

pub record RowsTo (labels : List ℕ) (a b w n : ℕ) (before after : List ℕ) (i : ℕ) : Type 0 where
  pub within : i ≤ n
  pub size : length after ≡ length before
  pub done : (u v : ℕ) → u < i → v < n → entry after u v ≡ merged a b w (get_or labels u 0) (get_or labels v 0) (entry before u v)
  pub rest : (p : ℕ) → i * places ≤ p → get_or after p 0 ≡ get_or before p 0

pub rows_none : {labels : List ℕ} {a b w n : ℕ} {before : List ℕ} → RowsTo labels a b w n before before 0
rows_none = record { within = omega arith; size = refl; done = λ u v h g. absurd (omega arith); rest = λ p h. refl }

module _ {labels : List ℕ} {a b w n : ℕ} {before after : List ℕ} {i : ℕ} (r : RowsTo labels a b w n before after i) (few : n ≤ places) where
  module _ (h : i < n) where
    -- The next row, whose entries are right and outside of which nothing has changed.
    rows_more :
        {next : List ℕ} → length next ≡ length after
        → ((v : ℕ) → v < n → entry next i v ≡ merged a b w (get_or labels i 0) (get_or labels v 0) (entry after i v))
        → ((p : ℕ) → ((j : ℕ) → j < n → ¬ (p ≡ i * places + j)) → get_or next p 0 ≡ get_or after p 0)
        → RowsTo labels a b w n before next (i + 1)
    rows_more {next} size row outside = record {
      within = omega arith;
      size = size ∙ r.size;
      done = λ u v hu hv. dite (ℕ_discrete u i)
          (λ p. ap (λ (z : ℕ). entry next z v) p ∙ row v hv
          ∙ ap (merged a b w (get_or labels i 0) (get_or labels v 0)) (r.rest (i * places + v) (omega arith))
          ∙ sym (ap (λ (z : ℕ). merged a b w (get_or labels z 0) (get_or labels v 0) (entry before z v)) p))
          (λ d. outside (u * places + v) (λ j g e. omega arith) ∙ r.done u v (omega arith) hv);
      rest = λ p g. outside p (λ j l e. omega arith) ∙ r.rest p (omega arith);
    }

    pub rows-first :
        get_or labels i 0 ≡ a → {next : List ℕ} → length next ≡ length after → RowFilled labels b w (i * places) n after next
        → RowsTo labels a b w n before next (i + 1)
    rows-first e size row = rows_more size (λ v hv. row.inside v hv ∙ rw (eq-eqb (get_or labels i 0) a e)) row.outside

    pub rows-second :
        ¬ (get_or labels i 0 ≡ a) → get_or labels i 0 ≡ b → {next : List ℕ} → length next ≡ length after
        → RowFilled labels a w (i * places) n after next → RowsTo labels a b w n before next (i + 1)
    rows-second d e size row =
        rows_more size (λ v hv. row.inside v hv ∙ rw (ne_eqb (get_or labels i 0) a d, eq-eqb (get_or labels i 0) b e)) row.outside

    pub rows_skip : ¬ (get_or labels i 0 ≡ a) → ¬ (get_or labels i 0 ≡ b) → RowsTo labels a b w n before after (i + 1)
    rows_skip d e = rows_more refl (λ v hv. rw (ne_eqb (get_or labels i 0) a d, ne_eqb (get_or labels i 0) b e)) (λ p g. refl)
