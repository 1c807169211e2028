-- The round and the run to the end as calls, and setting the tail.
use mathlib.Core.Path.{◌≡◌, refl, sym, ap, ◌∙◌}
use mathlib.Core.Bool.{Bool}
use mathlib.Core.List.{[], ◌∷◌}
use Prim.Native.Nat.{ℕ, ◌≤◌, ◌<◌}
use lib.ListN.{length, take}
use borrow.Author.Tests.{le-leb, lt-leb}
use Rattle.model.specs.State.{State}
use Rattle.model.specs.Round.{RoundAnswer, round, finish}
use Rattle.model.specs.Contents.{Contents, with_kinds, with_tail, keeping, ValidContents}
use Rattle.model.proofs.Round.{round-pins, finish-rounds, rounds-pins}
use Rattle.points.proofs.Coded.{pins-count}
use Rattle.model.specs.Refusal.{check, first_failed}
use Rattle.model.specs.Tail.{longest_tail}
use Rattle.model.specs.Call as call
use Rattle.working.specs.declared.deck.WorkingDeck.{WorkingDeck}
use Rattle.working.specs.declared.Working.{Working}
use Rattle.working.specs.InOrder.{state_of}
use Rattle.working.specs.WorkingDeck.{contents_of}
use Rattle.rounds.specs.declared.Rounded.{Rounded}
use Rattle.rounds.specs.declared.Ended.{Ended}
use Rattle.rounds.specs.Rounds.{Finished, Added, FinishOf}
use Rattle.calls.specs.declared.Reply.{Reply}
use Rattle.calls.specs.declared.Reply.TheVariants as reply
use Rattle.calls.specs.Changes.{reply_of, ChangedBy}

-- A form with the pins of another has the contents of that one's kinds.
kept : (d : WorkingDeck) (w : Working) (s : State) → w.points.npins ≡ d.form.points.npins → state_of w ≡ s
    → contents_of (record { form = w; kinds = d.kinds; tail = d.tail }) ≡ keeping (contents_of d) s
kept d w s e f = λ i. with_tail d.tail (with_kinds (f i) (take (e i) d.kinds))

-- The number of pins is that of the state, which a round keeps.
counted : (w v : Working) → (state_of v).pins ≡ (state_of w).pins → v.points.npins ≡ w.points.npins
counted w v e = sym (pins-count v.points v.in_order.arranged) ∙ ap length e ∙ pins-count w.points w.in_order.arranged

module _ (d : WorkingDeck) (v : ValidContents (contents_of d)) where
  abbrev s : State
  s = state_of d.form

  pub round_finished : Finished d.tail d.form → ChangedBy d call.one_round (record { working = d; reply = reply.Finished })
  unfolding call.step reply_of
  round_finished by =
      record {
        in_order = d.form.in_order;
        next = kept d d.form (round d.tail s).next refl by.next;
        reply = ap (λ (a : RoundAnswer). reply_of (call.answered a)) by.answer;
      }

  pub round_added : (r : Rounded) → Added d.tail d.form r → (a : Reply) → a ≡ reply.Tap r.x r.y r.fall
      → ChangedBy d call.one_round (record { working = record { form = r.working; kinds = d.kinds; tail = d.tail }; reply = a })
  unfolding call.step reply_of
  round_added r by a is =
      record {
        in_order = by.in_order;
        next =
            kept d r.working (round d.tail s).next
            (counted d.form r.working (ap (λ (z : State). z.pins) by.next ∙ round-pins d.tail s v.state)) by.next;
        reply = is ∙ ap (λ (z : RoundAnswer). reply_of (call.answered z)) by.answer;
      }

  pub end_is : (r : Ended) → FinishOf d.tail d.form r
      → ChangedBy d call.run_to_end (record { working = record { form = r.working; kinds = d.kinds; tail = d.tail }; reply = reply.Rounds r.count })
  unfolding call.step reply_of
  end_is r by =
      let ends = (finish-rounds d.tail s v.state).0 in
      record {
        in_order = by.in_order;
        next =
            kept d r.working (finish d.tail s).final
            (counted d.form r.working (ap (λ (z : State). z.pins) by.final ∙ rounds-pins ends v.state)) by.final;
        reply = ap reply.Rounds by.count;
      }

-- Setting the tail, by its test.
module _ (c : Contents) (tail : ℕ) where
  setting : Bool → call.Outcome
  setting b = call.unless (first_failed (check 16 (λ _. b) ∷ [])) c (λ _. with_tail tail c)

  pub tail-refused : longest_tail < tail → call.step c (call.set_tail tail) ≡ record { next = c; reply = call.refused 16 }
  unfolding call.step call.tail_refusal setting first_failed
  tail-refused h = ap setting (lt-leb tail longest_tail h)

  pub tail-done : tail ≤ longest_tail → call.step c (call.set_tail tail) ≡ record { next = with_tail tail c; reply = call.done }
  unfolding call.step call.tail_refusal setting first_failed
  tail-done h = ap setting (le-leb tail longest_tail h)

pub tail-set : (d : WorkingDeck) (tail given : ℕ) → given ≡ tail → given ≤ longest_tail
    → ChangedBy d (call.set_tail tail) (record { working = record { form = d.form; kinds = d.kinds; tail = given }; reply = reply.Done })
unfolding reply_of
tail-set d tail given is h =
    let done = ap (λ (n : ℕ). call.step (contents_of d) (call.set_tail n)) (sym is) ∙ tail-done (contents_of d) given h in
    record {
      in_order = d.form.in_order;
      next = ap (λ (o : call.Outcome). o.next) (sym done);
      reply = ap (λ (o : call.Outcome). reply_of o.reply) (sym done);
    }
