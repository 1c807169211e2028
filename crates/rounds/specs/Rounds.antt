-- What a round and a run to the end on a working form leave and answer, by the model.
use Rattle.std.specs.Prelude.{◌≡◌, ℕ, Option, MatchOption}
use Rattle.model.specs.Round.{finished, tap, round, finish}
use Rattle.plane.specs.Point.{point}
use Rattle.working.specs.declared.Working.{Working}
use Rattle.working.specs.InOrder as work
use Rattle.rounds.specs.declared.Rounded.{Rounded}
use Rattle.rounds.specs.declared.Ended.{Ended}

-- A round on w is finished: so the model answers, and its next state is the same.
pub record Finished (tail : ℕ) (w : Working) : Type 0 where
  pub next : work.state_of w ≡ (round tail (work.state_of w)).next
  pub answer : finished ≡ (round tail (work.state_of w)).answer

-- A round on w adds a tap and leaves r: the model's next state, in a working form in order, and its answer.
pub record Added (tail : ℕ) (w : Working) (r : Rounded) : Type 0 where
  pub in_order : work.InOrder r.working
  pub next : work.state_of r.working ≡ (round tail (work.state_of w)).next
  pub answer : tap (point r.x r.y) r.fall ≡ (round tail (work.state_of w)).answer

-- What a round on w leaves and answers, by the model.
abbrev pub RoundOf : ℕ → Working → Option Rounded → Type 0
RoundOf tail w r = MatchOption r (Finished tail w) (Added tail w)

-- A run to the end of w leaves and answers r.
pub record FinishOf (tail : ℕ) (w : Working) (r : Ended) : Type 0 where
  pub in_order : work.InOrder r.working
  pub final : work.state_of r.working ≡ (finish tail (work.state_of w)).final
  pub count : r.count ≡ (finish tail (work.state_of w)).count
