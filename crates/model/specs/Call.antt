-- The calls that change a deck, their refusals and a list of calls.
use Rattle.std.specs.Prelude.{Bool, not, List, [], ◌∷◌, ℕ, ltb, length}
use Rattle.std.proofs.Math.Option.{Option, none, some}
use Rattle.plane.specs.Point.{Point, in_range, lower}
use Rattle.arrays.specs.Set.{has}
use Rattle.model.specs.Refusal.{Check, check, first_failed}
use Rattle.model.specs.State.{State, insert, remove, max_pins}
use Rattle.model.specs.DeviceKinds.{sensor, is_kind}
use Rattle.model.specs.Contents.{Contents, with_tail, keeping, following}
use Rattle.model.specs.Tail.{is_tail}
use Rattle.model.specs.Round.{RoundAnswer, round, finish}

-- Whether a pin stands at p.
abbrev pub holds_pin : Point → State → Bool
holds_pin p s = has lower p s.pins

-- The checks of adding a device of kind k at p, in their order (SPEC 8.3): p in range, k a kind, no pin there, and room for one more, also
-- where a tap stands.
abbrev pub add_checks : Point → ℕ → State → List Check
add_checks p k s =
    check 7 (λ _. in_range p)
    ∷ check 15 (λ _. is_kind k)
    ∷ check 8 (λ _. not (holds_pin p s))
    ∷ check 10 (λ _. ltb (length s.pins) max_pins)
    ∷ []

-- The check of withdrawing at p (SPEC 8.3): a pin there. No pin is out of range.
abbrev pub withdraw_checks : Point → State → List Check
withdraw_checks p s = check 9 (λ _. holds_pin p s) ∷ []

-- The check of setting the tail length (SPEC 8.3): at most the longest.
abbrev pub tail_checks : ℕ → List Check
tail_checks tail = check 16 (λ _. is_tail tail) ∷ []

-- The refusals of adding, withdrawing and setting the tail length.
unfoldable pub insert_refusal : Point → ℕ → State → Option ℕ
insert_refusal p k s = first_failed (add_checks p k s)

unfoldable pub remove_refusal : Point → State → Option ℕ
remove_refusal p s = first_failed (withdraw_checks p s)

unfoldable pub tail_refusal : ℕ → Option ℕ
tail_refusal tail = first_failed (tail_checks tail)

-- The calls that change a deck (SPEC 4.2 to 4.5, 4.8). Adding names a place and a kind, and setting the tail its length.
pub data Call : Type 0 where
  add : Point → ℕ → Call
  withdraw : Point → Call
  one_round : Call
  run_to_end : Call
  set_tail : ℕ → Call

-- What a call answers (SPEC 4, 8.3): done, a refusal by its number, a round's answer, or how many rounds named a tap.
pub data Reply : Type 0 where
  done : Reply
  refused : ℕ → Reply
  answered : RoundAnswer → Reply
  rounds : ℕ → Reply

-- What a call hands back: the next contents, and the reply.
pub record Outcome : Type 0 where
  pub next : Contents
  pub reply : Reply

-- A refused call leaves the contents; otherwise those that follow, and done.
abbrev pub unless : Option ℕ → Contents → (Unit {0} → Contents) → Outcome
unless none c after = record { next = after tt; reply = done }
unless (some n) c after = record { next = c; reply = refused n }

-- A call on the contents of a deck (SPEC 4.2 to 4.5, 4.8): the contents that follow and the reply.
unfoldable pub step : Contents → Call → Outcome
step c (add p k) = unless (insert_refusal p k c.state) c (λ _. following k c (insert p c.state))
step c (withdraw p) = unless (remove_refusal p c.state) c (λ _. following sensor c (remove p c.state))
step c one_round = let r = round c.tail c.state in record { next = keeping c r.next; reply = answered r.answer }
step c run_to_end = let e = finish c.tail c.state in record { next = keeping c e.final; reply = rounds e.count }
step c (set_tail tail) = unless (tail_refusal tail) c (λ _. with_tail tail c)

-- The contents after a list of calls, with the points that SPEC 6.1 reckons.
unfoldable pub contents_after : Contents → List Call → Contents
contents_after c [] = c
contents_after c (k ∷ ks) = contents_after (step c k).next ks
