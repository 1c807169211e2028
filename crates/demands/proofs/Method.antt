-- What a sound deck answers is what the published method gives, by the relations: its calls are the model's on its contents, the model's
-- tree, choice and sweep fit their relations, and rounds alone lead to one deck.
use mathlib.Core.Path.{◌≡◌, refl, sym, ap, ◌∙◌, subst, subst⁻¹}
use mathlib.Core.Logic.{◌⊎◌, inl, inr}
use mathlib.Core.Bool.{true}
use mathlib.Core.Option.{Option}
use mathlib.Core.List.{List}
use Prim.Native.Nat.{ℕ, suc, ◌+◌, ◌-◌}
use native.Mathlib.Omega.{arith}
use lib.Dec.{T}
use lib.IntN.{ℤ, pos}
use lib.Signed.{lt_z}
use Rattle.arrays.specs.Order.{Sorted}
use Rattle.arrays.proofs.Set.{out-sorted}
use Rattle.arrays.proofs.Test.{true_of}
use Rattle.plane.specs.Point.{Point, point, lower, Lower}
use Rattle.plane.specs.Edge.{Edge}
use Rattle.plane.proofs.Order.{lower-order}
use Rattle.model.specs.Tree.{mst}
use Rattle.model.specs.Tail.{tree_length_with}
use Rattle.model.specs.Contents.{Contents, keeping}
use Rattle.model.specs.State.{State, points, with_pin, without_pin, insert, remove, prune}
use Rattle.model.specs.Round.{RoundAnswer, RoundResult, finished, tap, with_steiner, round_with, round}
use Rattle.model.specs.Choice.{Candidate, saved, Chosen, SweptTo}
use Rattle.model.specs.Question as model
use Rattle.model.specs.Call as call
use Rattle.model.proofs.Tree.{mst_the_tree}
use Rattle.model.proofs.TailClaim.{tails}
use Rattle.model.proofs.Prune.{points-rise}
use Rattle.model.proofs.Choice.{Choice, none_saves, some_chosen, best_choice}
use Rattle.model.proofs.Sweep.{prune-swept}
use Rattle.model.proofs.Round.{with_placed, round-falls}
use Rattle.model.proofs.Refusal.{unless-next}
use Rattle.model.proofs.Step.{step-valid}
use Rattle.calls.specs.declared.Reply.{Reply}
use Rattle.calls.specs.declared.Reply.TheVariants as reply
use Rattle.calls.specs.Changes.{reply_of}
use Rattle.demands.proofs.Replies.{done-reply}
use Rattle.questions.specs.declared.Answer.TheVariants.{Length}
use Rattle.questions.specs.Answers.{Question, of_length, of_edge, answer_to}
use Rattle.deck.specs.declared.Deck.{Deck}
use Rattle.deck.specs.declared.Outcome.{Outcome}
use Rattle.deck.specs.Form.{deck_of, contents_of, state_of, Sound, sound}
use Rattle.deck.specs.Calls.{deck_outcome, called}
use Rattle.deck.specs.Questions.{asked}
use Rattle.deck.specs.Session.{DeckRoundsTo, ended, added}
use Rattle.deck.specs.SessionDeck.{SessionDeck}
use Rattle.deck.proofs.Form.{contents-deck, deck-sound, sound_is}
use Rattle.deck.proofs.Calls.{called-sound}
use Rattle.deck.proofs.Questions.{asked-sound}
use Rattle.deck.proofs.Session.{valid-deck}
use Rattle.demands.specs.Method.{RunsAreTree, RoundOf, SweepsOf, EndOf}

pub passes : (d : Deck) → Sound d → sound d ≡ true
passes d s = true_of (sound d) ((sound_is d).1 s)

-- A sound deck's calls and answers are the model's on its contents.
module _ (d : Deck) (s : Sound d) where
  pub calls_model : (c : call.Call) → called d c ≡ deck_outcome (call.step (contents_of d) c)
  calls_model c = sym (called-sound d c (passes d s))

  pub next_is : (c : call.Call) → (called d c).next ≡ deck_of (call.step (contents_of d) c).next
  unfolding deck_outcome
  next_is c = ap (λ (o : Outcome). o.next) (calls_model c)

  pub reply_is : (c : call.Call) → (called d c).reply ≡ reply_of (call.step (contents_of d) c).reply
  unfolding deck_outcome
  reply_is c = ap (λ (o : Outcome). o.reply) (calls_model c)

  pub next_sound_lem : (c : call.Call) → Sound (called d c).next
  next_sound_lem c = rw (next_is c) (deck-sound (call.step (contents_of d) c).next (step-valid (contents_of d) c s.valid))

  pub answered : (q : Question) → asked d q ≡ answer_to q (contents_of d)
  answered q = sym (asked-sound d q (passes d s))

  pub next-contents : (c : call.Call) → contents_of (called d c).next ≡ (call.step (contents_of d) c).next
  next-contents c = ap contents_of (next_is c) ∙ contents-deck (call.step (contents_of d) c).next (step-valid (contents_of d) c s.valid)

  -- The tree.
  pub runs_are_tree : (t : List Edge) × RunsAreTree d t
  unfolding model.listed tree_length_with
  runs_are_tree = (
    mst (points (state_of d)),
    record {
      tree = mst_the_tree (points (state_of d)) rise;
      with_tails = ((tails d.tail).tree (points (state_of d)) rise (mst (points (state_of d)))).1 (mst_the_tree (points (state_of d)) rise);
      edges = λ i. answered (of_edge i);
      total = answered of_length;
    },
  )
    where
      rise : Sorted Lower (points (state_of d))
      rise = points-rise (state_of d) s.valid.state.placed.steiner_rise

-- What a round does, by the choice.
data View (tail : ℕ) (s : State) : RoundResult → Type 0 where
  stays : ((c : Point) → Candidate (points s) c → ¬ T (lt_z (pos 0) (saved tail (points s) c))) → View tail s (record { next = s; answer = finished })
  adds : (c : Point) (fall : ℕ) → Chosen tail (points s) c → View tail s (record { next = prune (with_steiner c s); answer = tap c fall })

view : (tail : ℕ) (s : State) → View tail s (round tail s)
unfolding round
view tail s = go (best_choice tail (points s))
  where
    go : {o : Option Point} → Choice tail (points s) o
        → View tail s (round_with tail s o)
    go (none_saves f) = stays f
    go (some_chosen c h) = adds c _ h

abbrev replied : RoundResult → Reply
replied r = reply_of (call.answered r.answer)

is_tap : (a : RoundAnswer) (x y : ℤ) (fall : ℕ) → reply_of (call.answered a) ≡ reply.Tap x y fall → a ≡ tap (point x y) fall
unfolding reply_of
is_tap finished x y fall e = absurd (let z : ◌≡◌ {A = ℕ} 0 1 = cc in omega arith)
is_tap (tap c n) x y fall e =
    let ex : c.x ≡ x = cc in
    let ey : c.y ≡ y = cc in
    let en : n ≡ fall = cc in
    λ i. tap (record { x = ex i; y = ey i }) (en i)

-- A round.
module _ (d : Deck) (s : Sound d) where
  abbrev st : State
  st = state_of d

  round-reply : (called d call.one_round).reply ≡ replied (round d.tail st)
  unfolding call.step
  round-reply = reply_is d s call.one_round

  round-next : (called d call.one_round).next ≡ deck_of (keeping (contents_of d) (round d.tail st).next)
  unfolding call.step
  round-next = next_is d s call.one_round

  round-state : state_of (called d call.one_round).next ≡ (round d.tail st).next
  unfolding call.step
  round-state = ap (λ (c : Contents). c.state) (next-contents d s call.one_round)

  either : {r : RoundResult} → View d.tail st r → (replied r ≡ reply.Finished) ⊎ ((x y : ℤ) × (fall : ℕ) × (replied r ≡ reply.Tap x y fall))
  unfolding reply_of
  either (stays f) = inl refl
  either (adds c fall h) = inr (c.x, c.y, fall, refl)

  none_saves_of : {r : RoundResult} → View d.tail st r → replied r ≡ reply.Finished
      → ((c : Point) → Candidate (points st) c → ¬ T (lt_z (pos 0) (saved d.tail (points st) c))) × (r.next ≡ st)
  unfolding reply_of
  none_saves_of (stays f) e = (f, refl)
  none_saves_of (adds c fall h) e = absurd (let z : ◌≡◌ {A = ℕ} 0 1 = cc in omega arith)

  finished-if : {r : RoundResult} → View d.tail st r → ((c : Point) → Candidate (points st) c → ¬ T (lt_z (pos 0) (saved d.tail (points st) c)))
      → replied r ≡ reply.Finished
  unfolding reply_of
  finished-if (stays f) g = refl
  finished-if (adds c fall h) g = absurd (g c h.candidate h.saves)

  tapped : {r : RoundResult} → View d.tail st r → (c : Point) (fall : ℕ) → r.answer ≡ tap c fall
      → Chosen d.tail (points st) c × SweptTo (with_steiner c st) r.next
  tapped (stays f) c fall e = absurd (let z : ◌≡◌ {A = ℕ} 0 1 = cc in omega arith)
  tapped (adds b n h) c fall e =
      let q : b ≡ c = cc in
      subst (λ (z : Point). Chosen d.tail (points st) z × SweptTo (with_steiner z st) (prune (with_steiner b st))) q (h, swept)
    where
      swept : SweptTo (with_steiner b st) (prune (with_steiner b st))
      swept = prune-swept (with_steiner b st) (with_placed st s.valid.state.placed b h.candidate).steiner_rise

  module _ (x y : ℤ) (fall : ℕ) (e : (called d call.one_round).reply ≡ reply.Tap x y fall) where
    is : (round d.tail st).answer ≡ tap (point x y) fall
    is = is_tap (round d.tail st).answer x y fall (sym round-reply ∙ e)

    both : Chosen d.tail (points st) (point x y) × SweptTo (with_steiner (point x y) st) (round d.tail st).next
    both = tapped (view d.tail st) (point x y) fall is

    falls : (before after : ℕ) → asked d of_length ≡ Length before → asked (called d call.one_round).next of_length ≡ Length after → after + fall ≡ before
    unfolding call.step
    falls before after p q =
        let f = (round-falls d.tail st s.valid.state (point x y) fall is).1 in
        let a : Length (model.length_of_state d.tail st) ≡ Length before = sym (answered d s of_length) ∙ p in
        let b : Length (model.length_of_state d.tail (round d.tail st).next) ≡ Length after =
        ap (λ (z : Contents). Length (model.length_of_contents z)) (sym (next-contents d s call.one_round))
        ∙ sym (answered (called d call.one_round).next (next_sound_lem d s call.one_round) of_length) ∙ q in
        let m : model.length_of_state d.tail st ≡ before = cc in
        let n : model.length_of_state d.tail (round d.tail st).next ≡ after = cc in
        ap (λ (z : ℕ). z + fall) (sym n) ∙ f ∙ m

  pub round_of : RoundOf d
  round_of =
      record {
        either = rw round-reply (either (view d.tail st));
        finished = (λ e. (none_saves_of (view d.tail st) (sym round-reply ∙ e)).0, λ f. round-reply ∙ finished-if (view d.tail st) f);
        unchanged = λ e. round-next ∙ ap (λ (z : State). deck_of (keeping (contents_of d) z)) (none_saves_of (view d.tail st) (sym round-reply ∙ e)).1
            ∙ sym s.same;
        chosen = λ x y fall e. (both x y fall e).0;
        swept = λ x y fall e. rw round-state (both x y fall e).1;
        falls = λ x y fall before after e. falls x y fall e before after;
      }

-- A pin that joins or leaves.
done_next : (o : Option ℕ) (c : Contents) (f : Unit {0} → Contents) → reply_of (call.unless o c f).reply ≡ reply.Done → (call.unless o c f).next ≡ f tt
done_next o c f e = unless-next o c f (done-reply (call.unless o c f).reply e)

pub sweeps_of : (d : Deck) → Sound d → SweepsOf d
unfolding call.step insert remove
sweeps_of d s =
    let st = state_of d in
    let rise : Sorted Lower (state_of d).steiner = s.valid.state.placed.steiner_rise in
    record {
      added = λ p k e.
          let n = next-contents d s (call.add p k) ∙ done_next (call.insert_refusal p k st) (contents_of d) _ (sym (reply_is d s (call.add p k)) ∙ e) in
          subst⁻¹ (λ (c : Contents). SweptTo (with_pin p st) c.state) n (prune-swept (with_pin p st) (out-sorted lower lower-order p st.steiner rise));
      withdrawn = λ p e.
          let n = next-contents d s (call.withdraw p) ∙ done_next (call.remove_refusal p st) (contents_of d) _ (sym (reply_is d s (call.withdraw p)) ∙ e) in
          subst⁻¹ (λ (c : Contents). SweptTo (without_pin p st) c.state) n (prune-swept (without_pin p st) rise);
    }

-- Rounds alone lead to one deck, by one number of rounds.
rounds_same : {d e f : Deck} {k m : ℕ} → DeckRoundsTo d k e → DeckRoundsTo d m f → (k ≡ m) × (e ≡ f)
rounds_same (ended a) (ended b) = (refl, refl)
rounds_same (ended a) (added b r) = absurd (let q = sym a ∙ b in let z : ◌≡◌ {A = ℕ} 0 1 = cc in omega arith)
rounds_same (added a r) (ended b) = absurd (let q = sym a ∙ b in let z : ◌≡◌ {A = ℕ} 0 1 = cc in omega arith)
rounds_same (added a r) (added b t) = let q = rounds_same r t in (ap suc q.0, q.1)

pub end_of : (d : Deck) → Sound d → EndOf d
end_of d s =
    record {
      counts = λ k. (
        λ e.
            let q : m.count ≡ k = same k (sym m.counted ∙ e) in
            ((called d call.run_to_end).next, subst (λ (n : ℕ). DeckRoundsTo d n (called d call.run_to_end).next) q m.rounds_end),
        λ r. m.counted ∙ ap reply.Rounds (rounds_same m.rounds_end r.1).0,
      );
      leads = λ k e r. (rounds_same m.rounds_end r).1;
    }
  where
    m : SessionDeck d (contents_of d)
    m = subst⁻¹ (λ (z : Deck). SessionDeck z (contents_of d)) s.same (valid-deck (contents_of d) s.valid)

    same : (k : ℕ) → reply.Rounds m.count ≡ reply.Rounds k → m.count ≡ k
    same k e = cc
