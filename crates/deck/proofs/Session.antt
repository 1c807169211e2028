-- The claim on sessions of decks: a call on the deck of valid contents is the model's call on the contents, so a list of calls is too.
use mathlib.Core.Path.{◌≡◌, refl, sym, ap, ap₂, ◌∙◌}
use mathlib.Core.Logic.{◌↔◌}
use mathlib.Core.Bool.{true}
use mathlib.Core.List.{List, [], ◌∷◌}
use Prim.Native.Nat.{ℕ}
use native.Mathlib.Omega.{arith}
use Rattle.model.specs.State.{State}
use Rattle.model.specs.Contents.{Contents, keeping, ValidContents}
use Rattle.model.specs.Round.{RoundAnswer, finished, tap, round, finish}
use Rattle.model.specs.Call as call
use Rattle.model.specs.Session as model
use Rattle.model.proofs.Round.{round-valid, round-pins}
use Rattle.model.proofs.Step.{step-valid, after-valid}
use Rattle.model.proofs.DeviceKinds.{keeping-valid}
use Rattle.model.proofs.Session.{start-valid, valid_contents_lem}
use Rattle.arrays.proofs.Test.{true_of}
use Rattle.deck.specs.declared.Outcome.{Outcome}
use Rattle.calls.specs.declared.Reply.TheVariants.{Finished}
use Rattle.deck.specs.Form.{deck_of, contents_of, sound}
use Rattle.calls.specs.Changes.{reply_of}
use Rattle.deck.specs.Calls.{deck_outcome, called}
use Rattle.deck.specs.Questions.{asked}
use Rattle.questions.specs.Answers.{Question, of_length, of_edge, answer_to}
use Rattle.deck.specs.Session.{deck_after, replies, reckoned, DeckRoundsTo, ended, added}
use Rattle.deck.specs.SessionDeck.{SessionDeck, DeckSessions}
use Rattle.deck.proofs.Form.{contents-deck, deck-sound, sound_is}
use Rattle.deck.proofs.Calls.{called-sound}
use Rattle.deck.proofs.Questions.{asked-sound}

module _ (c : Contents) (v : ValidContents c) where
  pub valid_passes : sound (deck_of c) ≡ true
  valid_passes = true_of (sound (deck_of c)) ((sound_is (deck_of c)).1 (deck-sound c v))

  same : contents_of (deck_of c) ≡ c
  same = contents-deck c v

  -- A call on the deck of valid contents.
  pub called-valid : (k : call.Call) → called (deck_of c) k ≡ deck_outcome (call.step c k)
  called-valid k = sym (called-sound (deck_of c) k valid_passes) ∙ ap (λ (z : Contents). deck_outcome (call.step z k)) same

  pub next-valid : (k : call.Call) → (called (deck_of c) k).next ≡ deck_of (call.step c k).next
  unfolding deck_outcome
  next-valid k = ap (λ (o : Outcome). o.next) (called-valid k)

  pub reply-valid : (k : call.Call) → (called (deck_of c) k).reply ≡ reply_of (call.step c k).reply
  unfolding deck_outcome
  reply-valid k = ap (λ (o : Outcome). o.reply) (called-valid k)

  pub asked-valid : (q : Question) → asked (deck_of c) q ≡ answer_to q c
  asked-valid q = sym (asked-sound (deck_of c) q valid_passes) ∙ ap (answer_to q) same

-- A list of calls.
pub after-deck : (calls : List call.Call) (c : Contents) → ValidContents c → deck_after (deck_of c) calls ≡ deck_of (call.contents_after c calls)
unfolding deck_after call.contents_after
after-deck [] c v = refl
after-deck (k ∷ ks) c v = rw (next-valid c v k) (after-deck ks (call.step c k).next (step-valid c k v))

pub replies-deck : (calls : List call.Call) (c : Contents) → ValidContents c → replies (deck_of c) calls ≡ reckoned c calls
unfolding replies reckoned
replies-deck [] c v = refl
replies-deck (k ∷ ks) c v = ap₂ ◌∷◌ (reply-valid c v k) (rw (next-valid c v k) (replies-deck ks (call.step c k).next (step-valid c k v)))

-- A round's reply.
finished-reply : (a : RoundAnswer) → reply_of (call.answered a) ≡ Finished → a ≡ finished
unfolding reply_of
finished-reply finished e = refl
finished-reply (tap p fall) e = let z : ◌≡◌ {A = ℕ} 0 1 = cc in absurd (omega arith)

module _ (c : Contents) (v : ValidContents c) where
  round-reply : (called (deck_of c) call.one_round).reply ≡ reply_of (call.answered (round c.tail c.state).answer)
  unfolding call.step
  round-reply = reply-valid c v call.one_round

  round-next : (called (deck_of c) call.one_round).next ≡ deck_of (keeping c (round c.tail c.state).next)
  unfolding call.step
  round-next = next-valid c v call.one_round

  pub finish-deck : ((called (deck_of c) call.one_round).reply ≡ Finished) ↔ ((round c.tail c.state).answer ≡ finished)
  unfolding reply_of
  finish-deck =
      (λ e. finished-reply (round c.tail c.state).answer (sym round-reply ∙ e), λ e. round-reply ∙ ap (λ (a : RoundAnswer). reply_of (call.answered a)) e)

-- Rounds alone on decks are those on states, with the kinds and the tail kept.
rounds_along : (c : Contents) {s r : State} {k : ℕ} → ValidContents (keeping c s) → model.RoundsTo c.tail s k r
    → DeckRoundsTo (deck_of (keeping c s)) k (deck_of (keeping c r))
unfolding reply_of
rounds_along c {s} v (model.ended e) = ended ((finish-deck (keeping c s) v).1 e)
rounds_along c {s} {r} v (model.added {k = k} e m) =
    added {e = deck_of (keeping c r)} {k = k} (round-reply (keeping c s) v ∙ ap (λ (a : RoundAnswer). reply_of (call.answered a)) e)
    (rw (round-next (keeping c s) v)
    (rounds_along c (keeping-valid v (round-valid c.tail s v.state) (round-pins c.tail s v.state)) m))

pub rounds-deck : (c : Contents) {r : State} {k : ℕ} → ValidContents c → model.RoundsTo c.tail c.state k r
    → DeckRoundsTo (deck_of c) k (deck_of (keeping c r))
rounds-deck c v m = rounds_along c v m

pub valid-deck : (c : Contents) → ValidContents c → SessionDeck (deck_of c) c
unfolding call.step reply_of
valid-deck c v =
    let session = valid_contents_lem c v in
    let m = session.state in
    record {
      sound = deck-sound c v;
      contents = contents-deck c v;
      session = session;
      length_is = asked-valid c v of_length;
      edge = λ i. asked-valid c v (of_edge i);
      finish_exact = (λ e. m.finish_exact.0 ((finish-deck c v).0 e), λ f. (finish-deck c v).1 (m.finish_exact.1 f));
      count = (finish c.tail c.state).count;
      counted = reply-valid c v call.run_to_end;
      rounds_end = rw (next-valid c v call.run_to_end) (rounds-deck c v m.rounds_end);
      rounds-few = m.rounds-few;
    }

pub deck_sessions : DeckSessions
deck_sessions c start calls =
    let v = start-valid c start in
    (rw (after-deck calls c v) (valid-deck (call.contents_after c calls) (after-valid calls c v)), replies-deck calls c v)
