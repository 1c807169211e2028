-- The search among the candidates of a column, from no gain at all, finds what the column names: every candidate gains more than 0, since the edge from it to
-- a point held is shorter than `far`, and what it gains above `far` and two tails is its saving.
use mathlib.Core.Path.{◌≡◌, refl, sym, ap, ◌∙◌, subst}
use mathlib.Core.Logic.{⊎_elim}
use mathlib.Core.Bool.{false}
use mathlib.Core.Option.{Option, none, some}
use mathlib.Core.List.Memᴰ.{head}
use mathlib.Core.List.Memᴰ.{tail as later}
use mathlib.Core.List.{List, [], ◌∷◌, Memᴰ}
use Prim.Native.Nat.{ℕ, ◌+◌, ◌*◌, ◌≤◌, ◌<◌}
use native.Mathlib.Omega.{arith}
use lib.Dec.{T}
use lib.IntN.{ℤ, pos, sub_ℕ}
use lib.Signed.{lt_z}
use borrow.Author.Tests.{lt-ltb}
use Rattle.arrays.specs.Order.{Sorted}
use Rattle.arrays.specs.Set.{put}
use Rattle.arrays.proofs.Members.{member_length}
use Rattle.arrays.proofs.Test.{and_parts, and_both, by_test}
use Rattle.plane.specs.Point.{Point, point, lower, Lower, coordinate_in_range, in_range}
use Rattle.plane.specs.Coordinate.{stored_limit}
use Rattle.plane.specs.Code.{x_of, located}
use Rattle.std.specs.Prelude.{Some}
use Rattle.plane.proofs.Stored.{coordinate-stored}
use Rattle.plane.proofs.codes.Points.{located_is, code-small}
use Rattle.plane.proofs.Range.{dist_range}
use Rattle.plane.proofs.Whole.{whole_ext, sub_value}
use Rattle.model.specs.State.{State, points, Placed}
use Rattle.model.specs.Tail.{tree_length_with}
use Rattle.model.specs.Round.{saving, best_above}
use Rattle.model.specs.Choice.{Candidate, saved}
use Rattle.model.proofs.Prune.{points_in_lem, points-rise}
use Rattle.model.proofs.Hub.{joined-most}
use Rattle.model.proofs.Round.{candidate_range}
use Rattle.model.proofs.Tail.{one_point_more}
use Rattle.regions.specs.Rays.{far}
use Rattle.score.specs.Prepared.{spared_by}
use Rattle.search.specs.declared.found.Greatest.{Greatest}
use Rattle.search.specs.Search.{tried, try_all, greatest_at, nothing_found}
use Rattle.search.proofs.Scan.{try_from}
use Rattle.std.specs.Prelude.{Some, None}
use Rattle.columns.specs.Column.{candidates_at, most_saving, answer_for, column_answer}
use Rattle.columns.specs.Found.{choice_of, choice_found}
use Rattle.columns.proofs.InColumn.{candidates_at_lem}
use Rattle.columns.proofs.Claims.{ChoiceAt, none_there, chosen-there, choice_at, columns}

-- The x of a code that was located is in range.
pub located-small : (p : Point) {k : ℕ} → located p ≡ Some k → {u : ℕ} → u ≡ x_of k → u ≤ stored_limit
located-small p {k} e is = omega (arith, is, code-small k (located_is p k e).1)

-- The search from a point found finds a point.
finds : (tail now : ℕ) (ps : List Point) (top : ℤ) (c : Point) (l : List Point) → (d : Point) × (best_above tail now ps top (some c) l ≡ some d)
unfolding best_above
finds tail now ps top c [] = (c, refl)
finds tail now ps top c (a ∷ l) =
    by_test (λ (o : Option Point). (d : Point) × (o ≡ some d)) (lt_z top (saving tail now ps a)) _ _ (λ _. finds tail now ps (saving tail now ps a) a l)
    (λ _. finds tail now ps top c l)

module _ (tail : ℕ) (s : State) (placed : Placed s) where
  abbrev ps : List Point
  ps = points s

  rise : Sorted Lower ps
  rise = points-rise s placed.steiner_rise

  -- What was found, from no gain.
  found_from : Option Point → Greatest
  found_from none = nothing_found
  found_from (some c) = greatest_at tail ps (some c)

  module _ (c : Point) (k : Candidate ps c) where
    gains : 0 < spared_by ps c
    gains =
        let a = k.on_x.0 in
        let range = ⊎_elim (placed.pins_range a) (placed.steiner_range a) ((points_in_lem s a).0 k.on_x.1) in
        omega (arith, joined-most ps rise c a k.on_x.1, dist_range c a (candidate_range s placed c k) range)

    -- Its saving, by its gain.
    saving_is : sub_ℕ (spared_by ps c) (far + 2 * tail) ≡ saved tail ps c
    unfolding saving
    saving_is =
        whole_ext _ _ (omega (
          arith,
          gains,
          one_point_more tail ps rise (member_length k.on_x.1) c k.free,
          sub_value (spared_by ps c) (far + 2 * tail),
          sub_value (tree_length_with tail ps) (tree_length_with tail (put lower c ps)),
        ))

    choice_is : choice_found tail (greatest_at tail ps (some c)) ≡ choice_of (answer_for tail ps (some c))
    choice_is =
        let r = candidate_range s placed c k in
        let ins = and_parts (coordinate_in_range c.x) (coordinate_in_range c.y) r in
        let x = coordinate-stored c.x ins.0 in
        let y = coordinate-stored c.y ins.1 in
        λ i. Some (record { x = x i; y = y i; saving = saving_is i })

  try_any : (l : List Point) → ((c : Point) → Memᴰ c l → Candidate ps c)
      → try_all ps nothing_found l ≡ found_from (most_saving tail (tree_length_with tail ps) ps l)
  unfolding try_all tried most_saving found_from
  try_any [] all = refl
  try_any (c ∷ l) all =
      let k = all c (head refl) in
      let f = finds tail (tree_length_with tail ps) ps (saving tail (tree_length_with tail ps) ps c) c l in
      let from = try_from tail ps rise (member_length k.on_x.1) c k.free (gains c k) l (λ d i. (all d (later i)).free) in
      rw (lt-ltb 0 (spared_by ps c) (gains c k), f.1) (rw f.1 at from)

  -- What the search finds among the candidates with an x is the answer of its column.
  pub column_found : (x : ℤ) {r : Greatest} → r ≡ try_all ps nothing_found (candidates_at x ps) → choice_found tail r ≡ choice_of (column_answer tail ps x)
  unfolding column_answer found_from
  column_found x e =
      ap (choice_found tail) (e ∙ try_any (candidates_at x ps) (λ c i. ((candidates_at_lem x ps c).0 i).0)) ∙ go (choice_at tail ps x)
    where
      go : {o : Option Point} → ChoiceAt tail ps x o → choice_found tail (found_from o) ≡ choice_of (answer_for tail ps o)
      go (none_there f) = refl
      go (chosen-there c h) = choice_is c h.candidate

  -- No candidate is out of range.
  pub out-column : (x : ℤ) → in_range (point x (pos 0)) ≡ false → None ≡ choice_of (column_answer tail ps x)
  out-column x e =
      ap choice_of (sym (((columns tail ps).empty x).1 (λ d k ex.
      let in-x = (and_parts (coordinate_in_range d.x) (coordinate_in_range d.y) (candidate_range s placed d k)).0 in
      subst T e (and_both (coordinate_in_range x) (coordinate_in_range (pos 0)) (subst (λ (z : ℤ). T (coordinate_in_range z)) ex in-x) tt))))
