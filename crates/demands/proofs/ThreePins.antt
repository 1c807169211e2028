-- Three pins and the half perimeter of the box around them: what the model's states of three pins have is said of decks.
use mathlib.Core.Path.{◌≡◌, sym, ap, ◌∙◌, subst, subst⁻¹}
use mathlib.Core.Logic.{◌↔◌, ◌⊎◌, inl, ⊎_elim}
use mathlib.Core.List.Memᴰ
use mathlib.Core.List.Memᴰ.{not-nil}
use mathlib.Core.List.{List, [], ◌∷◌, map, Memᴰ}
use native.Mathlib.Omega.{arith}
use Prim.Native.Nat.{ℕ}
use lib.Dec.{T}
use Rattle.arrays.proofs.Members.{mem-each}
use Rattle.plane.specs.Point.{Point, in_range}
use Rattle.plane.specs.Box.{half_perimeter}
use Rattle.plane.proofs.Axis.{connected_perimeter}
use Rattle.plane.proofs.Box.{box_perimeter, box_around}
use Rattle.model.specs.DeviceKinds.{is_kind}
use Rattle.model.specs.Contents.{Contents, empty_contents, ValidContents}
use Rattle.model.specs.Round.{RoundResult, Ended, finished, round, finish}
use Rattle.model.specs.Tree.{tree_length}
use Rattle.model.specs.Tail.{no_tail}
use Rattle.model.specs.TailClaim.{SetsNoTail}
use Rattle.model.specs.State.{points}
use Rattle.model.specs.Question.{length_of_state}
use Rattle.model.proofs.Tail.{tree_no_tails}
use Rattle.model.proofs.TailsFollow.{adding_sets_none, tail-after}
use Rattle.model.specs.Call as call
use Rattle.model.proofs.PinsAdded.{Device, adding, added-pins}
use Rattle.model.proofs.Session.{empty_contents_lem}
use Rattle.model.proofs.Step.{after-valid}
use Rattle.model.proofs.ThreePins.{finished_perimeter, perimeter_finished, end_perimeter, round_perimeter}
use Rattle.calls.specs.declared.Reply.TheVariants as reply
use Rattle.questions.specs.declared.Answer.TheVariants.{Length}
use Rattle.questions.specs.Answers.{of_length}
use Rattle.deck.specs.declared.Deck.{Deck}
use Rattle.deck.specs.Form.{deck_of, contents_of, state_of, Sound}
use Rattle.deck.specs.Calls.{called}
use Rattle.deck.specs.Session.{deck_after}
use Rattle.deck.proofs.Form.{contents-deck, deck-sound}
use Rattle.deck.proofs.Session.{after-deck, finish-deck}
use Rattle.demands.proofs.Method.{answered, next_sound_lem, next-contents}
use Rattle.demands.proofs.Tails.{deck-tails}
use Rattle.demands.specs.ThreePins as three
use Rattle.demands.specs.ThreePins.{PinsAre, LengthIsHalfPerimeter, ThreePins}

-- What a deck without tails answers for its length, by its points.
module _ (d : Deck) (s : Sound d) (bare : d.tail ≡ no_tail) (p q r : Point) where
  flat : length_of_state d.tail (state_of d) ≡ tree_length (points (state_of d))
  flat = ap (λ (t : ℕ). length_of_state t (state_of d)) bare ∙ tree_no_tails (points (state_of d))

  length-answered : tree_length (points (state_of d)) ≡ half_perimeter (p ∷ q ∷ r ∷ []) → LengthIsHalfPerimeter d p q r
  length-answered e = answered d s of_length ∙ ap Length (flat ∙ e)

  answered-length : LengthIsHalfPerimeter d p q r → tree_length (points (state_of d)) ≡ half_perimeter (p ∷ q ∷ r ∷ [])
  answered-length e =
      let f = sym (answered d s of_length) ∙ e in
      let g : length_of_state d.tail (state_of d) ≡ half_perimeter (p ∷ q ∷ r ∷ []) = cc in
      sym flat ∙ g

-- Sound decks of three pins.
module _ (d : Deck) (s : Sound d) (bare : d.tail ≡ no_tail) (p q r : Point) (pins : PinsAre d p q r) where
  -- After a round or a run to the end, which keep the tail.
  after : (c : call.Call) → SetsNoTail c
      → tree_length (points (call.step (contents_of d) c).next.state) ≡ half_perimeter (p ∷ q ∷ r ∷ []) → LengthIsHalfPerimeter (called d c).next p q r
  after c n e =
      length-answered (called d c).next (next_sound_lem d s c) ((deck-tails d s).kept c n ∙ bare) p q r
      (ap (λ (z : Contents). tree_length (points z.state)) (next-contents d s c) ∙ e)

  -- A round and a run to the end are those without tails.
  round_bare : round d.tail (state_of d) ≡ round no_tail (state_of d)
  round_bare = ap (λ (t : ℕ). round t (state_of d)) bare

  finish_bare : finish d.tail (state_of d) ≡ finish no_tail (state_of d)
  finish_bare = ap (λ (t : ℕ). finish t (state_of d)) bare

  at_end_lem : LengthIsHalfPerimeter (called d call.run_to_end).next p q r
  unfolding call.step
  at_end_lem =
      after call.run_to_end (λ t e. let z : ◌≡◌ {A = ℕ} 0 1 = cc in omega arith)
      (ap (λ (e : Ended). tree_length (points e.final)) finish_bare ∙ end_perimeter (state_of d) s.valid.state p q r pins)

  after_one_round_lem : (state_of d).steiner ≡ [] → LengthIsHalfPerimeter (called d call.one_round).next p q r
  unfolding call.step
  after_one_round_lem none =
      after call.one_round (λ t e. let z : ◌≡◌ {A = ℕ} 0 1 = cc in omega arith)
      (ap (λ (e : RoundResult). tree_length (points e.next)) round_bare ∙ round_perimeter (state_of d) s.valid.state p q r pins none)

  finished_exactly : ((called d call.one_round).reply ≡ reply.Finished) ↔ LengthIsHalfPerimeter d p q r
  finished_exactly = (
    λ e. length-answered d s bare p q r (finished_perimeter (state_of d) s.valid.state p q r pins (is.0 e)),
    λ e. is.1 (perimeter_finished (state_of d) s.valid.state p q r pins (answered-length d s bare p q r e)),
  )
    where
      is : ((called d call.one_round).reply ≡ reply.Finished) ↔ ((round no_tail (state_of d)).answer ≡ finished)
      is = subst (λ (z : RoundResult). ((called d call.one_round).reply ≡ reply.Finished) ↔ (z.answer ≡ finished)) round_bare
          (subst⁻¹ (λ (z : Deck). ((called z call.one_round).reply ≡ reply.Finished) ↔ ((round d.tail (state_of d)).answer ≡ finished)) s.same
          (finish-deck (contents_of d) s.valid))

-- The deck of three points that are added to an empty one: its pins are these points, it is sound, and a run to the end follows.
module _ (p q r : Point) (i j k : ℕ) (hp : T (in_range p) × T (is_kind i)) (hq : T (in_range q) × T (is_kind j)) (hr : T (in_range r) × T (is_kind k)) where
  abbrev devices : List Device
  devices = (p, i) ∷ (q, j) ∷ (r, k) ∷ []

  adds : List call.Call
  adds = map adding devices

  adds-valid : ValidContents (call.contents_after empty_contents adds)
  adds-valid = after-valid adds empty_contents empty_contents_lem

  is_deck : deck_after (deck_of empty_contents) adds ≡ deck_of (call.contents_after empty_contents adds)
  is_deck = after-deck adds empty_contents empty_contents_lem

  added : PinsAre (deck_after (deck_of empty_contents) adds) p q r
  unfolding adds
  added u =
      subst⁻¹ (λ (c : Contents). Memᴰ u c.state.pins ↔ Memᴰ u (p ∷ q ∷ r ∷ []))
      (ap contents_of is_deck ∙ contents-deck _ adds-valid)
      (λ i. ⊎_elim (λ j. j) (λ j. absurd (not-nil j)) (pins.0 i), λ i. pins.1 (inl i))
    where
      pins : Memᴰ u (call.contents_after empty_contents adds).state.pins ↔ (Memᴰ u (p ∷ q ∷ r ∷ []) ⊎ Memᴰ u [])
      pins =
          added-pins devices empty_contents empty_contents_lem
          (λ a m. mem-each (λ (z : Device). T (in_range z.0) × T (is_kind z.1)) devices (hp, (hq, (hr, tt))) m) (omega arith) u

  -- Adding sets no tail.
  untailed : (deck_after (deck_of empty_contents) adds).tail ≡ no_tail
  unfolding adds deck_of
  untailed =
      ap (λ (d : Deck). d.tail) is_deck
      ∙ tail-after adds (adding_sets_none p i, (adding_sets_none q j, (adding_sets_none r k, tt))) empty_contents

  reached : LengthIsHalfPerimeter (deck_after (deck_of empty_contents) (three.adding p q r i j k (call.run_to_end ∷ []))) p q r
  unfolding deck_after adds
  reached =
      at_end_lem (deck_after (deck_of empty_contents) adds) (subst⁻¹ Sound is_deck (deck-sound (call.contents_after empty_contents adds) adds-valid)) untailed
      p q r added

pub three_pins_lem : ThreePins
unfolding adds
three_pins_lem =
    record {
      added = added;
      reached = reached;
      least = λ ps further t tree. connected_perimeter ps t
          (λ u v i j. tree.spans u v (Memᴰ.append_left further i) (Memᴰ.append_left further j));
      at_end = at_end_lem;
      finished = finished_exactly;
      after_one_round = after_one_round_lem;
      of_box = box_perimeter;
      box = box_around;
    }
