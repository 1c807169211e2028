-- The claim on sessions: the contents that a list of calls leads to are valid, and of a valid state the rest holds.
use mathlib.Core.List.Memᴰ.{not-nil}
use Prim.Native.Nat.{ℕ, ◌≤◌}
use native.Mathlib.Omega.{arith}
use lib.ListN.{length}
use Rattle.arrays.specs.Order.{Sorted}
use Rattle.plane.specs.Point.{Lower}
use Rattle.model.specs.Tail.{longest_tail, tree_length_with}
use Rattle.model.specs.State.{State, empty, points, Valid}
use Rattle.model.specs.Contents.{Contents, empty_contents, ValidContents}
use Rattle.model.specs.Call.{contents_after}
use Rattle.model.specs.Session.{StartContents, fresh, file, SessionState, SessionContents, Sessions, most_points}
use Rattle.model.proofs.Tree.{mst-run-tree}
use Rattle.model.proofs.TailClaim.{least-with_tails}
use Rattle.model.proofs.Prune.{points-rise}
use Rattle.model.proofs.Candidate.{candidates_are}
use Rattle.model.proofs.Round.{round-finished, finish-rounds}
use Rattle.model.proofs.Step.{after-valid}
use Rattle.model.proofs.Bounds.{points-few, length-bound, held_range, round-few, round-fits}
use Rattle.model.proofs.FileValid.{file-valid}
use Rattle.model.proofs.DeviceKinds.{of_state-valid}

pub empty-valid : Valid empty
empty-valid =
    record {
      few = omega arith;
      placed =
          record {
            pins_range = λ p i. absurd (not-nil i);
            steiner_range = λ p i. absurd (not-nil i);
            pins_rise = tt;
            steiner_rise = tt;
            apart = λ p i j. not-nil i;
          };
      branching = λ q i. absurd (not-nil i);
    }

pub empty_contents_lem : ValidContents empty_contents
empty_contents_lem = of_state-valid empty-valid

pub start-valid : (c : Contents) → StartContents c → ValidContents c
start-valid c fresh = empty_contents_lem
start-valid c (file b e) = file-valid b c e

pub valid-session : (tail : ℕ) (s : State) → Valid s → tail ≤ longest_tail → SessionState tail s
unfolding tree_length_with
valid-session tail s v h =
    record {
      tree = (mst-run-tree (points s) rise).tree;
      least = least-with_tails tail (points s) rise;
      finish_exact = round-finished tail s v;
      rounds_end = (finish-rounds tail s v).0;
      rounds-few = (finish-rounds tail s v).1;
      points-few = few;
      round-few = λ c i. round-few s v c ((candidates_are (points s) c).0 i);
      length-fits = length-bound tail h (points s) rise (omega (arith, few)) (held_range s v);
      round-fits = λ c i. round-fits s v c ((candidates_are (points s) c).0 i) tail h;
    }
  where
    rise : Sorted Lower (points s)
    rise = points-rise s v.placed.steiner_rise

    few : length (points s) ≤ most_points
    few = points-few s v

pub valid_contents_lem : (c : Contents) → ValidContents c → SessionContents c
valid_contents_lem c v = record { valid = v; state = valid-session c.tail c.state v.state v.tailed }

pub sessions : Sessions
sessions c start calls = valid_contents_lem (contents_after c calls) (after-valid calls c (start-valid c start))
