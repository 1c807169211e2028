-- The three demands, proved from the definitions that the contracts name.
use mathlib.Core.Path.{◌≡◌, refl, sym, ap, ◌∙◌}
use mathlib.Core.Logic.{◌↔◌, inl, inr}
use mathlib.Core.Bool.{false}
use mathlib.Core.List.{List, []}
use Prim.Native.Nat.{ℕ}
use native.Mathlib.Omega.{arith}
use Rattle.arrays.proofs.Test.{false_of}
use Rattle.model.specs.Contents.{Contents}
use Rattle.model.specs.Call as call
use Rattle.model.specs.Session as model
use Rattle.model.specs.Refusal.{FirstFailed}
use Rattle.model.specs.File.{Read, deck, refusal as refusing-file, file_checks, read_file}
use Rattle.model.proofs.Refusal.{unless-number, unless-kept, file_refused_lem}
use Rattle.model.proofs.FileKinds.{shows_kinds_is}
use Rattle.model.proofs.FileAnswer.{Possible, taken, refused, read_possible}
use Rattle.arrow.proofs.Claim.{arrow-refused, arrow-answered, arrows}
use Rattle.deck.specs.declared.Deck.{Deck}
use Rattle.calls.specs.declared.Reply.TheVariants as reply
use Rattle.deck.specs.Form.{deck_of, contents_of, Sound, sound}
use Rattle.deck.specs.Calls.{called}
use Rattle.deck.proofs.Form.{sound_is}
use Rattle.deck.proofs.Calls.{called_unsound}
use Rattle.deck.proofs.Questions.{asked_unsound}
use Rattle.questions.specs.Answers.{of_counts, of_edge, of_degree}
use Rattle.questions.proofs.Answers.{counts_are, beyond_last, none_held}
use Rattle.deck.proofs.Session.{deck_sessions}
use Rattle.deckfile.specs.Reading.{read_outcome, reading}
use Rattle.deckfile.proofs.Stored.{write_unsound, write-short, write-fits}
use Rattle.deckfile.proofs.RoundTrip.{read_untailed_lem, sound-fits, written_then_read, full_back, plain_full, written_sections_lem}
use Rattle.deckfile.proofs.answer.Entry.{entered}
use Rattle.planner.specs.Entry.{to_end}
use Rattle.display.proofs.Entry.{numbered}
use Rattle.replay.proofs.Claim.{replayed}
use Rattle.deck.specs.Session.{deck_after, replies, reckoned}
use Rattle.deck.specs.SessionDeck.{SessionDeck}
use mathlib.Core.Bool.{Bool}
use borrow.Author.Tests.{le-leb}
use lib.ListN.{length}
use Rattle.arrays.specs.Test.{if}
use Rattle.model.specs.Listing.{listing_of_file}
use Rattle.listing.specs.Whole.{listing_room}
use Rattle.listing.proofs.Text.{text-refused, text-deck}
use Rattle.demands.proofs.Sessions.{after-calls, bounds}
use Rattle.demands.proofs.KindLengths.{deck-lengths}
use Rattle.demands.proofs.KindsFollow.{deck-kinds}
use Rattle.demands.proofs.Tails.{deck-tails}
use Rattle.demands.proofs.Columns.{deck-columns}
use Rattle.demands.proofs.Replies.{refused-reply}
use Rattle.demands.proofs.Method.{passes, calls_model, next_is, reply_is, next_sound_lem, answered, runs_are_tree, round_of, sweeps_of, end_of}
use Rattle.demands.specs.Demands.{InCase, FileAnswer, Demand1, Demand2, StartDeck, fresh, file, Demand3}

unsound : (d : Deck) → ¬ Sound d → sound d ≡ false
unsound d n = false_of (sound d) (λ t. n ((sound_is d).0 t))

-- A call that is refused, in its case.
refused_case : (c : Contents) (k : call.Call) (n : ℕ) → (call.step c k).reply ≡ call.refused n → ((call.step c k).next ≡ c) × InCase c k n
unfolding call.step
refused_case c (call.add p k) n e = let o = call.insert_refusal p k c.state in (unless-kept o c _ n e, (unless-number o c _ n).0 e)
refused_case c (call.withdraw p) n e = let o = call.remove_refusal p c.state in (unless-kept o c _ n e, (unless-number o c _ n).0 e)
refused_case c call.one_round n e = let z : ◌≡◌ {A = ℕ} 0 1 = cc in absurd (omega arith)
refused_case c call.run_to_end n e = let z : ◌≡◌ {A = ℕ} 0 1 = cc in absurd (omega arith)
refused_case c (call.set_tail tail) n e = let o = call.tail_refusal tail in (unless-kept o c _ n e, (unless-number o c _ n).0 e)

refused_call_lem : (d : Deck) (s : Sound d) (c : call.Call) (n : ℕ) → (called d c).reply ≡ reply.Refused n → ((called d c).next ≡ d)
    × InCase (contents_of d) c n
refused_call_lem d s c n e =
    let r = refused_case (contents_of d) c n (refused-reply (call.step (contents_of d) c).reply n (sym (reply_is d s c) ∙ e)) in
    (next_is d s c ∙ ap deck_of r.0 ∙ sym s.same, r.1)

file-answer : (b : List ℕ) → FileAnswer (reading b)
unfolding read_outcome
file-answer b = go (read_file b) (read_possible b)
  where
    go : (r : Read) → Possible r → FileAnswer (read_outcome r)
    go (deck c) (taken v) = inl (c, v, refl)
    go (refusing-file n) (refused h) = inr (n, h, refl)

-- Reading replies with a number exactly if the file is refused by it.
read-refused : (r : Read) (n : ℕ) → ((read_outcome r).reply ≡ reply.Refused n) ↔ (r ≡ refusing-file n)
unfolding read_outcome
read-refused (deck c) n = (λ e. let z : ◌≡◌ {A = ℕ} 0 1 = cc in absurd (omega arith), λ e. let z : ◌≡◌ {A = ℕ} 0 1 = cc in absurd (omega arith))
read-refused (refusing-file k) n = (λ e. let q : k ≡ n = cc in ap refusing-file q, λ e. let q : k ≡ n = cc in ap reply.Refused q)

refused_exactly : (b : List ℕ) (n : ℕ) → ((reading b).reply ≡ reply.Refused n) ↔ FirstFailed n (file_checks b)
refused_exactly b n =
    let r = read-refused (read_file b) n in
    let f = file_refused_lem b n in
    (λ e. f.0 (r.0 e), λ h. r.1 (f.1 h))

pub demand1 : Demand1
demand1 =
    record {
      file = file-answer;
      file_refused = refused_exactly;
      file_kinds = shows_kinds_is;
      unsound_call = λ d c n. sym (called_unsound d c (unsound d n));
      unsound_question = λ d q n. sym (asked_unsound d q (unsound d n));
      unsound_writing = λ d l n. let w = write_unsound d l (unsound d n) in (sym w.0, sym w.1);
      next_sound = next_sound_lem;
      refused_call = refused_call_lem;
      short_buffer = λ d l s h. let w = write-short d l (passes d s) h in (sym w.0, sym w.1);
      long_buffer = write-fits;
      arrow = λ display bay pitch. record { answered = arrow-answered display bay pitch; refused = arrow-refused display bay pitch };
    }

pub demand2 : Demand2
demand2 =
    record {
      calls = calls_model;
      tree = runs_are_tree;
      round = round_of;
      sweeps = sweeps_of;
      end = end_of;
      questions = answered;
      counts = λ d s. answered d s of_counts ∙ counts_are (contents_of d) s.valid.state.placed;
      no_edge = λ d s i. let b = beyond_last (contents_of d) s.valid.state.placed i in
          (λ e. b.0 (sym (answered d s (of_edge i)) ∙ e), λ h. answered d s (of_edge i) ∙ b.1 h);
      no_point = λ d s p n. answered d s (of_degree p) ∙ none_held (contents_of d) s.valid.state.placed p n;
      read_untailed = read_untailed_lem;
      written_read = written_then_read;
      full_written_back = full_back;
      plain_written_full = plain_full;
      written_sections = written_sections_lem;
      written_sizes = sound-fits;
      kinds = deck-kinds;
      tails = deck-tails;
      columns = deck-columns;
      lengths = deck-lengths;
      planned = λ b l. entered (read_file b) (read_possible b) to_end l;
      listed = λ b. record {
        turned_down = λ n e. sym (text-refused b n e);
        taken = λ c e. sym (text-deck b c e);
        whole = λ out h. ap (λ (t : Bool). if t (λ _. listing_of_file b) (λ _. [])) (le-leb listing_room (length out) h);
      };
      arrows = arrows;
      displayed = numbered;
    }

-- Every start is one of the claim on decks.
start-deck : {d : Deck} {c : Contents} → StartDeck d c → (model.StartContents c) × (d ≡ deck_of c)
unfolding read_outcome
start-deck fresh = (model.fresh, refl)
start-deck (file b e) = (model.file b e, ap (λ (r : Read). (read_outcome r).next) e)

session : {d : Deck} {c : Contents} → StartDeck d c → (calls : List call.Call)
    → SessionDeck (deck_after d calls) (call.contents_after c calls) × (replies d calls ≡ reckoned c calls)
session {d} {c} start calls =
    let p = start-deck start in
    let q : d ≡ deck_of c = p.1 in
    rw q (deck_sessions c p.0 calls)

pub demand3 : Demand3
demand3 =
    record {
      lists = λ start calls. after-calls _ _ (session start calls).0;
      replied = λ start calls. (session start calls).1;
      bounded = λ start calls. bounds _ _ (session start calls).0;
      replayed = replayed;
    }
