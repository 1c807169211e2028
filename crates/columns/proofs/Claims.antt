-- What a column answers is settled by the words of SPEC 4.9: it names the candidate that is `ChosenAt` its x, and none exactly if no candidate has that x.
-- By the model's search, from a saving just below that of the first candidate.
use mathlib.Core.Path.{◌≡◌, refl, sym, ap, ◌∙◌, subst}
use mathlib.Core.Logic.{◌⊎◌, ◌↔◌}
use mathlib.Core.Option.{Option, none, some}
use mathlib.Core.List.Memᴰ.{head}
use mathlib.Core.List.Memᴰ.{not-nil}
use mathlib.Core.List.{List, [], ◌∷◌, Memᴰ}
use Prim.Native.Nat.{ℕ, suc}
use native.Mathlib.Omega.{arith}
use lib.Dec.{T}
use lib.IntN.{ℤ, pos, negsuc}
use lib.Signed.{lt_z}
use Rattle.arrays.specs.Order.{Sorted}
use Rattle.arrays.proofs.Test.{true_of}
use Rattle.plane.specs.Point.{Point, Lower}
use Rattle.plane.proofs.Whole.{value_less}
use Rattle.model.specs.Tail.{tree_length_with}
use Rattle.model.specs.Round.{saving, best_above}
use Rattle.model.specs.Choice.{Candidate, saved}
use Rattle.model.proofs.Choice.{Search, nothing, better, search, same_choice}
use Rattle.columns.specs.Column.{candidates_at, most_saving, no_candidate, chosen, answer_for, column_answer, ChosenAt, Columns}
use Rattle.columns.proofs.InColumn.{candidates_at_lem, candidates_at-rise}
use Rattle.columns.proofs.ByColumns.{by_columns}

-- A whole number below another.
below : (z : ℤ) → (w : ℤ) × T (lt_z w z)
below (pos n) = (negsuc 0, value_less (negsuc 0) (pos n) (omega arith))
below (negsuc n) = (negsuc (suc n), value_less (negsuc (suc n)) (negsuc n) (omega arith))

-- What is found in a rising list: nothing in an empty one, else of those that save most the lowest.
data Most (tail now : ℕ) (ps l : List Point) : Option Point → Type 0 where
  empty : ((c : Point) → ¬ Memᴰ c l) → Most tail now ps l none
  first : (c : Point) → Memᴰ c l → ((d : Point) → Memᴰ d l → ¬ T (lt_z (saving tail now ps c) (saving tail now ps d)))
      → ((d : Point) → Memᴰ d l → saving tail now ps d ≡ saving tail now ps c → (d ≡ c) ⊎ Lower c d) → Most tail now ps l (some c)

most : (tail now : ℕ) (ps l : List Point) → Sorted Lower l → Most tail now ps l (most_saving tail now ps l)
unfolding most_saving best_above
most tail now ps [] rise = empty (λ c i. not-nil i)
most tail now ps (a ∷ l) rise =
    let low = below (saving tail now ps a) in
    go low (search tail now ps low.0 none (a ∷ l) rise)
  where
    go : (low : (w : ℤ) × T (lt_z w (saving tail now ps a))) → Search tail now ps (a ∷ l) low.0 none (best_above tail now ps low.0 none (a ∷ l))
        → Most tail now ps (a ∷ l) (best_above tail now ps (saving tail now ps a) (some a) l)
    go low f = by (rw (true_of (lt_z low.0 (saving tail now ps a)) low.1) at f)
      where
        by : {o : Option Point} → Search tail now ps (a ∷ l) low.0 none o → Most tail now ps (a ∷ l) o
        by (nothing f) = absurd (f a (head refl) low.1)
        by (better c i more most low) = first c i most low

-- The choice of a column: no candidate has its x, or one is chosen.
pub data ChoiceAt (tail : ℕ) (ps : List Point) (x : ℤ) : Option Point → Type 0 where
  none_there : ((d : Point) → Candidate ps d → ¬ (d.x ≡ x)) → ChoiceAt tail ps x none
  chosen-there : (c : Point) → ChosenAt tail ps x c → ChoiceAt tail ps x (some c)

pub choice_at : (tail : ℕ) (ps : List Point) (x : ℤ) → ChoiceAt tail ps x (most_saving tail (tree_length_with tail ps) ps (candidates_at x ps))
choice_at tail ps x = go (most tail (tree_length_with tail ps) ps (candidates_at x ps) (candidates_at-rise x ps))
  where
    go : {o : Option Point} → Most tail (tree_length_with tail ps) ps (candidates_at x ps) o → ChoiceAt tail ps x o
    go (empty f) = none_there (λ d k e. f d ((candidates_at_lem x ps d).1 (k, e)))
    go (first c i most low) =
        let h = (candidates_at_lem x ps c).0 i in
        chosen-there c (record {
          candidate = h.0;
          there = h.1;
          most = λ d k e. most d ((candidates_at_lem x ps d).1 (k, e));
          lowest = λ d k e. low d ((candidates_at_lem x ps d).1 (k, e));
        })

-- Only one candidate is chosen.
chosen_at_unique : (tail : ℕ) (ps : List Point) (x : ℤ) (c d : Point) → ChosenAt tail ps x c → ChosenAt tail ps x d → c ≡ d
chosen_at_unique tail ps x c d h k =
    same_choice tail ps c d (h.most d k.candidate k.there) (k.most c h.candidate h.there) (h.lowest d k.candidate k.there)
    (k.lowest c h.candidate h.there)

names-chosen : (tail : ℕ) (ps : List Point) (x : ℤ) (c : Point) (v : ℤ)
    → (column_answer tail ps x ≡ chosen c v) ↔ (ChosenAt tail ps x c × (v ≡ saved tail ps c))
unfolding column_answer
names-chosen tail ps x c v = go (choice_at tail ps x)
  where
    go : {o : Option Point} → ChoiceAt tail ps x o → (answer_for tail ps o ≡ chosen c v) ↔ (ChosenAt tail ps x c × (v ≡ saved tail ps c))
    go (none_there f) = (
      λ e. let z : ◌≡◌ {A = ℕ} 0 1 = cc in absurd (omega arith),
      λ h. absurd (f c h.0.candidate h.0.there),
    )
    go (chosen-there d h) = (
      λ e. let q : d ≡ c = cc in let s : saved tail ps d ≡ v = cc in (subst (ChosenAt tail ps x) q h, sym s ∙ ap (saved tail ps) q),
      λ k. let q = chosen_at_unique tail ps x d c h k.0 in ap (λ (p : Point). chosen p (saved tail ps p)) q ∙ ap (chosen c) (sym k.1),
    )

names_none : (tail : ℕ) (ps : List Point) (x : ℤ) → (column_answer tail ps x ≡ no_candidate) ↔ ((d : Point) → Candidate ps d → ¬ (d.x ≡ x))
unfolding column_answer
names_none tail ps x = go (choice_at tail ps x)
  where
    go : {o : Option Point} → ChoiceAt tail ps x o → (answer_for tail ps o ≡ no_candidate) ↔ ((d : Point) → Candidate ps d → ¬ (d.x ≡ x))
    go (none_there f) = (λ _. f, λ _. refl)
    go (chosen-there c h) = (
      λ e. let z : ◌≡◌ {A = ℕ} 0 1 = cc in absurd (omega arith),
      λ f. absurd (f c h.candidate h.there),
    )

-- The claims.
pub columns : (tail : ℕ) (ps : List Point) → Columns tail ps
columns tail ps = record { names = names-chosen tail ps; empty = names_none tail ps; round = by_columns tail ps }
