-- A run to the end on a working form is the model's: its rounds lead where the model's rounds lead, and there is one such place.
use mathlib.Core.Path.{◌≡◌, refl, sym, ap, subst, subst⁻¹}
use Prim.Native.Nat.{ℕ, suc, ◌+◌, ◌≤◌, ◌<◌}
use native.Mathlib.Omega.{arith}
use Rattle.model.specs.State.{State, Valid}
use Rattle.plane.specs.Point.{point}
use Rattle.model.specs.Round.{round}
use Rattle.model.specs.Tail.{longest_tail}
use Rattle.model.specs.Question.{length_of_state}
use Rattle.model.specs.Session.{RoundsTo, ended, added}
use Rattle.model.proofs.Round.{round-valid, round-falls, finish-rounds}
use Rattle.model.proofs.Session.{valid-session}
use Rattle.working.specs.declared.Working.{Working}
use Rattle.working.specs.InOrder as work
use Rattle.rounds.specs.declared.Rounded.{Rounded}
use Rattle.rounds.specs.Rounds.{Finished, Added, FinishOf}

-- Rounds alone lead to one state, by one number of them.
same_end : {tail : ℕ} {s r r' : State} {k k' : ℕ} → RoundsTo tail s k r → RoundsTo tail s k' r' → (k ≡ k') × (r ≡ r')
same_end (ended e) (ended f) = (refl, refl)
same_end (ended e) (added f b) = let z : ◌≡◌ {A = ℕ} 0 1 = cc in absurd (omega arith)
same_end (added e a) (ended f) = let z : ◌≡◌ {A = ℕ} 0 1 = cc in absurd (omega arith)
same_end (added e a) (added f b) = let h = same_end a b in (ap suc h.0, h.1)

-- While rounds go on: after `count` rounds that added a Steiner point the working form is `at`.
pub record Running (tail : ℕ) (w at : Working) (count : ℕ) : Type 0 where
  pub valid : Valid (work.state_of at)
  pub rest : (k : ℕ) (r : State) → RoundsTo tail (work.state_of at) k r → RoundsTo tail (work.state_of w) (count + k) r
  pub left : length_of_state tail (work.state_of at) + count ≤ length_of_state tail (work.state_of w)
  pub fits : length_of_state tail (work.state_of w) ≤ 15246000

pub running_start : (tail : ℕ) (w : Working) → Valid (work.state_of w) → tail ≤ longest_tail → Running tail w w 0
running_start tail w v h =
    record {
      valid = v;
      rest = λ k e x. subst (λ (n : ℕ). RoundsTo tail (work.state_of w) n e) (omega arith) x;
      left = omega arith;
      fits = (valid-session tail (work.state_of w) v h).length-fits;
    }

module _ (tail : ℕ) (w at : Working) (count : ℕ) (run : Running tail w at count) where
  abbrev s : State
  s = work.state_of at

  -- The round added a Steiner point: the tree was shortened.
  module _ (r : Rounded) (by : Added tail at r) where
    shorter : length_of_state tail (round tail s).next < length_of_state tail s
    shorter = let f = round-falls tail s run.valid (point r.x r.y) r.fall (sym by.answer) in omega (arith, f.0, f.1)

    pub running_less : count < length_of_state tail (work.state_of w)
    running_less = omega (arith, shorter, run.left)

    pub running_fits : count < 15246000
    running_fits = omega (arith, running_less, run.fits)

    pub running_more : Running tail w r.working (count + 1)
    running_more =
        record {
          valid = subst⁻¹ Valid by.next (round-valid tail s run.valid);
          rest =
              λ k e x. subst (λ (n : ℕ). RoundsTo tail (work.state_of w) n e) (omega arith)
              (run.rest (suc k) e (added (sym by.answer) (subst (λ (z : State). RoundsTo tail z k e) by.next x)));
          left = omega (arith, shorter, run.left, ap (length_of_state tail) by.next);
          fits = run.fits;
        }

  pub running_end : Valid (work.state_of w) → Finished tail at → FinishOf tail w (record { working = at; count = count })
  running_end v stop =
      let h = same_end (run.rest 0 s (ended (sym stop.answer))) (finish-rounds tail (work.state_of w) v).0 in
      record { in_order = at.in_order; final = h.1; count = omega (arith, h.0) }
