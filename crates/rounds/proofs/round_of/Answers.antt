-- `rounds::round_of` meets its contract: the crossing found is the model's best candidate, and it joins as the model says.
use mathlib.Core.Path.{refl, sym, ap, ◌∙◌, subst₂, subst⁻¹}
use Prim.Native.Nat.{ℕ, ◌≤◌}
use Rattle.arrays.proofs.Signed.{read_is}
use Rattle.model.specs.State.{State, points}
use Rattle.model.specs.Tail.{tree_length_with}
use Rattle.model.proofs.Candidate.{map_in}
use Rattle.plane.specs.Code.{point_of}
use Rattle.rounds.proofs.Round.{point_room_lem, next-stays, answer_stays, found_at, next-joins, answer-joins}
use Rattle.rounds.proofs.Round.{joins-free, joins-shorter}
use Rattle.rounds.specs.Rounds.{RoundOf}
use Rattle.rounds.proofs.round_of.Goals as goal

-- In each, j is what is known of the crossing found, once its coordinates are packed.
pub with_steiner-next-requires : goal.with_steiner-next-requires
with_steiner-next-requires c =
    let q = c.requires in
    let j = found_at _ _ q.valid _ _ _ c.pack.ensures.0 (sym c.best_of.ensures ∙ c.in_ok-at.was) in
    record {
      t = j.is_point;
      nsteiner_bound = point_room_lem c.args.w q.valid;
      fact = λ i. joins-free _ _ _ _ _ j ((map_in point_of _ _).1 (_, i, refl));
    }

pub overflow_sub-fall : goal.overflow_sub-fall
overflow_sub-fall c =
    let q = c.requires in
    let j = found_at _ _ q.valid _ _ _ c.pack.ensures.0 (sym c.best_of.ensures ∙ c.in_ok-at.was) in
    let after = c.length_of-2.ensures ∙ ap (λ (z : State). tree_length_with c.args.tail (points z)) c.with_steiner-next.ensures in
    subst₂ (λ (a b : ℕ). a ≤ b) (sym after) (sym c.length_of.ensures) (joins-shorter _ _ _ _ _ j q.valid)

pub returns-in_err-at : goal.returns-in_err-at
returns-in_err-at c =
    let e = sym c.best_of.ensures ∙ c.in_err-at.was in
    subst⁻¹ (RoundOf c.args.tail c.args.w) c.from_residual.ensures (record { next = next-stays _ _ e; answer = answer_stays _ _ e })

pub returns : goal.returns
returns c =
    let j = found_at _ _ c.requires.valid _ _ _ c.pack.ensures.0 (sym c.best_of.ensures ∙ c.in_ok-at.was) in
    let e = c.with_steiner-next.ensures in
    let x = read_is (record { sfits = c.to_signed-x.type_inv }) c.to_signed-x.ensures in
    let y = read_is (record { sfits = c.to_signed-y.type_inv }) c.to_signed-y.ensures in
    record {
      in_order = c.with_steiner-next.result.in_order;
      next = next-joins _ _ _ _ _ j _ e;
      answer = answer-joins _ _ _ _ _ j _ _ _ _ _ e x y c.length_of.ensures c.length_of-2.ensures;
    }
