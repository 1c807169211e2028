-- A round on a working form is the model's: the crossing found is its best candidate.
use mathlib.Core.Path.{◌≡◌, refl, sym, ap, ap₂, ◌∙◌, subst}
use mathlib.Core.Logic.{inl}
use mathlib.Core.Option.{Option, none, some}
use mathlib.Core.List.{Memᴰ}
use Prim.Native.Nat.{ℕ, ◌+◌, ◌-◌, ◌≤◌, ◌<◌}
use native.Mathlib.Omega.{arith}
use lib.Dec.{T}
use lib.IntN.{ℤ}
use Rattle.plane.specs.Point.{Point, point, lower, coordinate_in_range}
use Rattle.arrays.proofs.Test.{and_parts}
use Rattle.plane.proofs.Stored.{coordinate-stored}
use Rattle.plane.specs.Coordinate.{coordinate, stored_of}
use Rattle.arrays.specs.Set.{put}
use Rattle.model.specs.State.{State, Valid, points, prune}
use Rattle.model.specs.Tail.{tree_length_with}
use Rattle.model.specs.Round.{RoundResult, finished, tap, with_steiner, round_with, best, round}
use Rattle.model.specs.Choice.{Candidate}
use Rattle.model.proofs.Prune.{points_in_lem}
use Rattle.model.proofs.Choice.{Choice, none_saves, some_chosen, best_choice, saved-shorter}
use Rattle.model.proofs.Round.{candidate_range, prune-shorter}
use Rattle.working.specs.declared.Working.{Working}
use Rattle.plane.specs.Code.{packed, code, point_of, is_code}
use Rattle.working.specs.InOrder as work
use Rattle.points.specs.Coded.{max_points}
use Rattle.points.proofs.Coded.{valid-few, pins-count, steiner_count_lem}
use Rattle.plane.proofs.codes.Points.{point-code, code_is}
use Rattle.std.specs.Prelude.{Some, None}
use Rattle.search.specs.declared.found.Crossing.{Crossing}
use Rattle.search.specs.Search.{answer_of}

-- A round, by the candidate that it chooses.
round_with_lem : (tail : ℕ) (s : State) (o : Option Point) → best tail (points s) ≡ o → round tail s ≡ round_with tail s o
unfolding round
round_with_lem tail s o e = ap (round_with tail s) e

-- No crossing was found: the round is finished.
none_found : (o : Option Point) → answer_of o ≡ None → o ≡ none
none_found none e = refl
none_found (some c) e = let z : ◌≡◌ {A = ℕ} 0 1 = cc in absurd (omega arith)

module _ (tail : ℕ) (s : State) (e : answer_of (best tail (points s)) ≡ None) where
  stays : round tail s ≡ round_with tail s none
  stays = round_with_lem tail s none (none_found (best tail (points s)) e)

  pub next-stays : s ≡ (round tail s).next
  next-stays = sym (ap (λ (r : RoundResult). r.next) stays)

  pub answer_stays : finished ≡ (round tail s).answer
  answer_stays = sym (ap (λ (r : RoundResult). r.answer) stays)

-- One was found: what is known of its code.
pub record Joins (tail : ℕ) (s : State) (u v k : ℕ) : Type 0 where
  pub is_point : T (is_code k)
  pub candidate : Candidate (points s) (point_of k)
  pub chosen : best tail (points s) ≡ some (point_of k)
  pub at_x_lem : coordinate u ≡ (point_of k).x
  pub at_y_lem : coordinate v ≡ (point_of k).y
  pub shorter : tree_length_with tail (put lower (point_of k) (points s)) < tree_length_with tail (points s)

pub found_at : (tail : ℕ) (s : State) → Valid s → (u v k : ℕ) → k ≡ packed u v → answer_of (best tail (points s)) ≡ Some (record { x = u; y = v })
    → Joins tail s u v k
unfolding code
found_at tail s valid u v k is e = go (best_choice tail (points s)) refl e
  where
    go : {o : Option Point} → Choice tail (points s) o → best tail (points s) ≡ o → answer_of o ≡ Some (record { x = u; y = v }) → Joins tail s u v k
    go (none_saves f) b q = let z : ◌≡◌ {A = ℕ} 0 1 = cc in absurd (omega arith)
    go (some_chosen c w) b q =
        let h = w.candidate in
        let less = saved-shorter tail (points s) c w.saves in
        let place : ◌≡◌ {A = Crossing} (record { x = stored_of c.x; y = stored_of c.y }) (record { x = u; y = v }) = cc in
        let x : stored_of c.x ≡ u = ap (λ (p : Crossing). p.x) place in
        let y : stored_of c.y ≡ v = ap (λ (p : Crossing). p.y) place in
        let r = candidate_range s valid.placed c h in
        let ins = and_parts (coordinate_in_range c.x) (coordinate_in_range c.y) r in
        let same : code c ≡ k = ap₂ packed x y ∙ sym is in
        let back : c ≡ point_of k = sym (point-code c r) ∙ ap point_of same in
        record {
          is_point = subst (λ (z : ℕ). T (is_code z)) same (code_is c r);
          candidate = subst (Candidate (points s)) back h;
          chosen = b ∙ ap some back;
          at_x_lem = ap coordinate (sym x) ∙ coordinate-stored c.x ins.0 ∙ ap (λ (p : Point). p.x) back;
          at_y_lem = ap coordinate (sym y) ∙ coordinate-stored c.y ins.1 ∙ ap (λ (p : Point). p.y) back;
          shorter = subst (λ (z : Point). tree_length_with tail (put lower z (points s)) < tree_length_with tail (points s)) back less;
        }

module _ (tail : ℕ) (s : State) (u v k : ℕ) (j : Joins tail s u v k) where
  joins : round tail s ≡ round_with tail s (some (point_of k))
  joins = round_with_lem tail s (some (point_of k)) j.chosen

  pub next-joins : (s' : State) → s' ≡ prune (with_steiner (point_of k) s) → s' ≡ (round tail s).next
  next-joins s' e = e ∙ sym (ap (λ (r : RoundResult). r.next) joins)

  pub answer-joins : (s' : State) (x y : ℤ) (m n : ℕ) → s' ≡ prune (with_steiner (point_of k) s) → x ≡ coordinate u → y ≡ coordinate v
      → m ≡ tree_length_with tail (points s) → n ≡ tree_length_with tail (points s')
      → tap (point x y) (m - n) ≡ (round tail s).answer
  answer-joins s' x y m n e ex ey em en =
      (λ i. tap (point ((ex ∙ j.at_x_lem) i) ((ey ∙ j.at_y_lem) i))
      (em i - (en ∙ ap (λ (z : State). tree_length_with tail (points z)) e) i))
      ∙ sym (ap (λ (r : RoundResult). r.answer) joins)

  pub joins-free : Memᴰ (point_of k) s.pins → ⊥
  joins-free i = j.candidate.free ((points_in_lem s (point_of k)).1 (inl i))

  pub joins-shorter : Valid s → tree_length_with tail (points (prune (with_steiner (point_of k) s))) ≤ tree_length_with tail (points s)
  joins-shorter w = omega (arith, j.shorter, prune-shorter tail s w (point_of k) j.candidate)

-- There is room for one more point.
pub point_room_lem : (w : Working) → Valid (work.state_of w) → w.points.npins + w.points.nsteiner < max_points
point_room_lem w v = omega (arith, valid-few (work.state_of w) v, pins-count w.points w.in_order.arranged, steiner_count_lem w.points w.in_order.arranged)
