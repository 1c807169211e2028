-- Setting the tail changes nothing else, and no other call changes it: contents are made by makers that keep the rest.
use mathlib.Core.Path.{◌≡◌, refl, ap, ◌∙◌}
use mathlib.Core.Option.{Option, none, some}
use mathlib.Core.List.{List, [], ◌∷◌}
use Prim.Native.Nat.{ℕ}
use native.Mathlib.Omega.{arith}
use Rattle.arrays.specs.Set.{Each}
use Rattle.plane.specs.Point.{Point}
use Rattle.model.specs.State.{insert, remove}
use Rattle.model.specs.DeviceKinds.{sensor}
use Rattle.model.specs.Contents.{Contents, with_tail, following}
use Rattle.model.specs.Call.{Call, add, withdraw, one_round, run_to_end, set_tail, refused}
use Rattle.model.specs.Call.{insert_refusal, remove_refusal, tail_refusal, unless, step, contents_after}
use Rattle.model.specs.TailClaim.{SetsNoTail, TailsFollow}
use Rattle.model.proofs.Refusal.{unless-next, unless-kept}

-- Of contents that a call leaves, or keeps: what both have.
either : {A : Type 0} (f : Contents → A) (o : Option ℕ) (c d : Contents) → f d ≡ f c → f (unless o c (λ _. d)).next ≡ f c
either f none c d e = e
either f (some n) c d e = refl

module _ (c : Contents) where
  besides : (k : Call) → SetsNoTail k → (step c k).next.tail ≡ c.tail
  unfolding step
  besides (add p k) n = either (λ (d : Contents). d.tail) (insert_refusal p k c.state) c (following k c (insert p c.state)) refl
  besides (withdraw p) n = either (λ (d : Contents). d.tail) (remove_refusal p c.state) c (following sensor c (remove p c.state)) refl
  besides one_round n = refl
  besides run_to_end n = refl
  besides (set_tail tail) n = absurd (n tail refl)

  turned_down_lem : (k : Call) (n : ℕ) → (step c k).reply ≡ refused n → (step c k).next.tail ≡ c.tail
  unfolding step
  turned_down_lem (add p k) n e = besides (add p k) (λ tail q. let z : ◌≡◌ {A = ℕ} 0 1 = cc in omega arith)
  turned_down_lem (withdraw p) n e = besides (withdraw p) (λ tail q. let z : ◌≡◌ {A = ℕ} 0 1 = cc in omega arith)
  turned_down_lem one_round n e = refl
  turned_down_lem run_to_end n e = refl
  turned_down_lem (set_tail tail) n e = ap (λ (d : Contents). d.tail) (unless-kept (tail_refusal tail) c (λ _. with_tail tail c) n e)

  pub tails-follow : TailsFollow c
  unfolding step
  tails-follow =
      record {
        points = λ tail. either (λ (d : Contents). d.state) (tail_refusal tail) c (with_tail tail c) refl;
        kinds = λ tail. either (λ (d : Contents). d.kinds) (tail_refusal tail) c (with_tail tail c) refl;
        set = λ tail e. ap (λ (d : Contents). d.tail) (unless-next (tail_refusal tail) c (λ _. with_tail tail c) e);
        turned_down = turned_down_lem;
        besides = besides;
      }

-- A list of calls none of which sets it.
pub adding_sets_none : (p : Point) (k : ℕ) → SetsNoTail (add p k)
adding_sets_none p k tail e = let z : ◌≡◌ {A = ℕ} 0 1 = cc in omega arith

pub tail-after : (calls : List Call) → Each SetsNoTail calls → (c : Contents) → (contents_after c calls).tail ≡ c.tail
unfolding contents_after
tail-after [] h c = refl
tail-after (k ∷ ks) h c = tail-after ks h.1 (step c k).next ∙ besides c k h.0
