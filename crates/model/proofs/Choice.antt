-- A round's choice is settled by the words of SPEC 4.4: `best` finds the candidate that is `Chosen`, and no other is. The search keeps
-- the first candidate that saves more than all before it; as candidates come lower first, that is the lowest of those that save most.
use mathlib.Core.Path.{◌≡◌, refl, sym, ap, subst, subst⁻¹}
use mathlib.Core.Logic.{◌⊎◌, inl, inr, ⊎_elim, ◌↔◌}
use mathlib.Core.Option.{Option, none, some, none-ne-some, some-ne-none}
use mathlib.Core.List.Memᴰ.{cases_cons as cases}
use mathlib.Core.List.Memᴰ.{head}
use mathlib.Core.List.Memᴰ.{not-nil}
use mathlib.Core.List.Memᴰ.{tail as later}
use mathlib.Core.List.{List, [], ◌∷◌, Memᴰ}
use Prim.Native.Nat.{ℕ, ◌≤◌, ◌<◌}
use native.Mathlib.Omega.{arith}
use native.Mathlib.Decide.{dec_lt}
use lib.Dec.{T, T_not}
use lib.IntN.{ℤ, pos}
use lib.Signed.{lt_z}
use Rattle.arrays.specs.Order.{Sorted}
use Rattle.plane.specs.Point.{Point, lower, Lower}
use Rattle.plane.proofs.Whole.{sub_value, less_value, value_less}
use Rattle.plane.proofs.Order.{lower-order, whole-order}
use Rattle.arrays.proofs.Test.{by_test}
use Rattle.arrays.specs.Set.{put}
use Rattle.model.specs.Tail.{tree_length_with}
use Rattle.model.specs.Round.{candidates, saving, best_above, best}
use Rattle.model.specs.Choice.{Candidate, saved, Chosen}
use Rattle.model.proofs.Candidate.{candidates_are, candidates-rise, less_save}

-- What the search among a rising list cs finds, beside what was found before: nothing that saves more than `top`, or of those
-- that save most the lowest.
pub data Search (tail now : ℕ) (ps cs : List Point) (top : ℤ) (found : Option Point) : Option Point → Type 0 where
  nothing : ((c : Point) → Memᴰ c cs → ¬ T (lt_z top (saving tail now ps c))) → Search tail now ps cs top found found
  better : (c : Point) → Memᴰ c cs → T (lt_z top (saving tail now ps c))
      → ((d : Point) → Memᴰ d cs → ¬ T (lt_z (saving tail now ps c) (saving tail now ps d)))
      → ((d : Point) → Memᴰ d cs → saving tail now ps d ≡ saving tail now ps c → (d ≡ c) ⊎ Lower c d)
      → Search tail now ps cs top found (some c)

pub search : (tail now : ℕ) (ps : List Point) (top : ℤ) (found : Option Point) (cs : List Point) → Sorted Lower cs
    → Search tail now ps cs top found (best_above tail now ps top found cs)
unfolding best_above
search tail now ps top found [] rise = nothing (λ c i. absurd (not-nil i))
search tail now ps top found (a ∷ cs) rise =
    by_test (Search tail now ps (a ∷ cs) top found) (lt_z top (v a)) (λ _. best_above tail now ps (v a) (some a) cs) (λ _. best_above tail now ps top found cs)
    (λ t. taken t (search tail now ps (v a) (some a) cs rise.1))
    (λ t. passed (T_not (lt_z top (v a)) t) (search tail now ps top found cs rise.1))
  where
    v : Point → ℤ
    v c = saving tail now ps c

    -- A fact of a and of each later candidate is one of all.
    each : (P : Point → Type 0) → P a → ((d : Point) → Memᴰ d cs → P d) → (d : Point) → Memᴰ d (a ∷ cs) → P d
    each P h f d i = ⊎_elim (λ e. subst⁻¹ P e h) (f d) (cases i)

    taken : T (lt_z top (v a)) → {o : Option Point} → Search tail now ps cs (v a) (some a) o → Search tail now ps (a ∷ cs) top found o
    taken t (nothing f) =
        better a (head refl) t (each (λ d. ¬ T (lt_z (v a) (v d))) (whole-order.irrefl (v a)) f)
        (each (λ d. v d ≡ v a → (d ≡ a) ⊎ Lower a d) (λ _. inl refl) (λ d i _. inr (rise.0 d i)))
    taken t (better c i more most low) =
        better c (later i) (whole-order.trans top (v a) (v c) t more)
        (each (λ d. ¬ T (lt_z (v c) (v d))) (λ h. whole-order.irrefl (v a) (whole-order.trans (v a) (v c) (v a) more h)) most)
        (each (λ d. v d ≡ v c → (d ≡ c) ⊎ Lower c d)
        (λ e. absurd (whole-order.irrefl (v a) (subst⁻¹ (λ (z : ℤ). T (lt_z (v a) z)) e more))) low)

    passed : ¬ T (lt_z top (v a)) → {o : Option Point} → Search tail now ps cs top found o → Search tail now ps (a ∷ cs) top found o
    passed n (nothing f) = nothing (each (λ d. ¬ T (lt_z top (v d))) n f)
    passed n (better c i more most low) =
        better c (later i) more (each (λ d. ¬ T (lt_z (v c) (v d))) (λ h. n (whole-order.trans top (v c) (v a) more h)) most)
        (each (λ d. v d ≡ v c → (d ≡ c) ⊎ Lower c d) (λ e. absurd (n (subst⁻¹ (λ (z : ℤ). T (lt_z top z)) e more))) low)

-- The choice of a round: no candidate saves anything, or one is chosen.
pub data Choice (tail : ℕ) (ps : List Point) : Option Point → Type 0 where
  none_saves : ((d : Point) → Candidate ps d → ¬ T (lt_z (pos 0) (saved tail ps d))) → Choice tail ps none
  some_chosen : (c : Point) → Chosen tail ps c → Choice tail ps (some c)

pub best_choice : (tail : ℕ) (ps : List Point) → Choice tail ps (best tail ps)
unfolding best
best_choice tail ps = go (search tail (tree_length_with tail ps) ps (pos 0) none (candidates ps) (candidates-rise ps))
  where
    go : {o : Option Point} → Search tail (tree_length_with tail ps) ps (candidates ps) (pos 0) none o → Choice tail ps o
    go (nothing f) = none_saves (λ d k. f d ((candidates_are ps d).1 k))
    go (better c i more most low) =
        some_chosen c (record {
          candidate = (candidates_are ps c).0 i;
          saves = more;
          most = λ d k. most d ((candidates_are ps d).1 k);
          lowest = λ d k. low d ((candidates_are ps d).1 k);
        })

-- Two points, neither lower than the other.
pub same_lowest : (c d : Point) → (c ≡ d) ⊎ Lower d c → (d ≡ c) ⊎ Lower c d → c ≡ d
same_lowest c d h k =
    ⊎_elim (λ e. e) (λ l. ⊎_elim (λ e. sym e) (λ m. absurd (lower-order.irrefl c (lower-order.trans c d c m l))) k) h

-- Two points of which neither saves more, and each is the other or lower where they save as much, are one.
pub same_choice : (tail : ℕ) (ps : List Point) (c d : Point) → ¬ T (lt_z (saved tail ps c) (saved tail ps d)) → ¬ T (lt_z (saved tail ps d) (saved tail ps c))
    → (saved tail ps d ≡ saved tail ps c → (d ≡ c) ⊎ Lower c d) → (saved tail ps c ≡ saved tail ps d → (c ≡ d) ⊎ Lower d c) → c ≡ d
same_choice tail ps c d more less low high = same_lowest c d (high same) (low (sym same))
  where
    same : saved tail ps c ≡ saved tail ps d
    same =
        ⊎_elim (λ l. absurd (more l)) (λ r. ⊎_elim (λ e. e) (λ l. absurd (less l)) r)
        (whole-order.compare (saved tail ps c) (saved tail ps d))

-- Only one candidate is chosen.
pub chosen_unique : (tail : ℕ) (ps : List Point) (c d : Point) → Chosen tail ps c → Chosen tail ps d → c ≡ d
chosen_unique tail ps c d h k =
    same_choice tail ps c d (h.most d k.candidate) (k.most c h.candidate) (h.lowest d k.candidate) (k.lowest c h.candidate)

-- `best` is the chosen candidate.
pub best-chosen : (tail : ℕ) (ps : List Point) (c : Point) → (best tail ps ≡ some c) ↔ Chosen tail ps c
best-chosen tail ps c = go (best_choice tail ps)
  where
    go : {o : Option Point} → Choice tail ps o → (o ≡ some c) ↔ Chosen tail ps c
    go (none_saves f) = (λ e. absurd (none-ne-some c e), λ h. absurd (f c h.candidate h.saves))
    go (some_chosen d h) = (λ e. let q : d ≡ c = cc in subst (Chosen tail ps) q h, λ k. ap some (chosen_unique tail ps d c h k))

-- `best` is none where no candidate saves anything.
pub best_none : (tail : ℕ) (ps : List Point) → (best tail ps ≡ none) ↔ ((d : Point) → Candidate ps d → ¬ T (lt_z (pos 0) (saved tail ps d)))
best_none tail ps = go (best_choice tail ps)
  where
    go : {o : Option Point} → Choice tail ps o → (o ≡ none) ↔ ((d : Point) → Candidate ps d → ¬ T (lt_z (pos 0) (saved tail ps d)))
    go (none_saves f) = (λ _. f, λ _. refl)
    go (some_chosen c h) = (λ e. absurd (some-ne-none c e), λ f. absurd (f c h.candidate h.saves))

-- A candidate that saves something makes the tree shorter, and one that does not leaves it at least as long.
pub saved-shorter : (tail : ℕ) (ps : List Point) (c : Point) → T (lt_z (pos 0) (saved tail ps c))
    → tree_length_with tail (put lower c ps) < tree_length_with tail ps
unfolding saving
saved-shorter tail ps c t = omega (arith, less_value (pos 0) (saved tail ps c) t, sub_value (tree_length_with tail ps) (tree_length_with tail (put lower c ps)))

pub unsaved_longer : (tail : ℕ) (ps : List Point) (c : Point) → ¬ T (lt_z (pos 0) (saved tail ps c))
    → tree_length_with tail ps ≤ tree_length_with tail (put lower c ps)
unfolding saving
unsaved_longer tail ps c n = go (dec_lt (tree_length_with tail (put lower c ps)) (tree_length_with tail ps))
  where
    go : Dec (tree_length_with tail (put lower c ps) < tree_length_with tail ps) → tree_length_with tail ps ≤ tree_length_with tail (put lower c ps)
    go (yes h) = absurd (n (value_less (pos 0) (saved tail ps c)
        (omega (arith, sub_value (tree_length_with tail ps) (tree_length_with tail (put lower c ps))))))
    go (no h) = omega arith

-- With a point that saves no more than c the tree is at least as long as with c.
pub no_more_saved : (tail : ℕ) (ps : List Point) (c d : Point) → ¬ T (lt_z (saved tail ps c) (saved tail ps d))
    → tree_length_with tail (put lower c ps) ≤ tree_length_with tail (put lower d ps)
unfolding saving
no_more_saved tail ps c d n = go (dec_lt (tree_length_with tail (put lower d ps)) (tree_length_with tail (put lower c ps)))
  where
    go : Dec (tree_length_with tail (put lower d ps) < tree_length_with tail (put lower c ps))
        → tree_length_with tail (put lower c ps) ≤ tree_length_with tail (put lower d ps)
    go (yes h) = absurd (n (less_save (tree_length_with tail ps) (tree_length_with tail (put lower c ps)) (tree_length_with tail (put lower d ps)) h))
    go (no h) = omega arith
