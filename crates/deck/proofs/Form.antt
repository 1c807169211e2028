-- Decks and contents correspond: the contents of the deck of valid contents are these, two sound decks with the same contents are equal, and
-- soundness is decided by the test.
use mathlib.Core.Path.{◌≡◌, sym, ap, ◌∙◌, subst, subst⁻¹}
use mathlib.Core.Logic.{◌↔◌}
use lib.Dec.{T, eqb, eqb→eq, eqb_refl}
use lib.ListN.{length, take}
use Rattle.arrays.specs.Same.{same_list}
use Rattle.arrays.proofs.Test.{and_parts, and_both}
use Rattle.arrays.proofs.Alike.{same_refl, same_eq}
use Rattle.model.specs.State.{max_pins}
use Rattle.model.specs.Contents.{Contents, with_kinds, with_tail, ValidContents, valid_contents}
use Rattle.model.proofs.DeviceKinds.{valid_contents_is}
use Rattle.points.specs.declared.Points.{Points}
use Rattle.points.specs.Coded.{Arranged, coded, padded, state_of as stateOfPoints}
use Rattle.points.proofs.Codes.{padded-take}
use Rattle.points.proofs.Coded.{state-coded, valid-arranged}
use Rattle.working.specs.declared.deck.WorkingDeck.{WorkingDeck}
use Rattle.working.specs.WorkingDeck as workingDeck
use Rattle.edges.specs.Edges.{edge_row}
use Rattle.deck.specs.declared.Deck.{Deck}
use Rattle.deck.specs.Form.{deck_of, contents_of, state_of, Sound, same_points, same_deck, sound}

-- The contents of the deck of valid contents are these.
pub contents-deck : (c : Contents) → ValidContents c → contents_of (deck_of c) ≡ c
unfolding deck_of coded
contents-deck c p = λ i. with_tail c.tail (with_kinds (state-coded c.state p.state.placed i) (kinds-read i))
  where
    kinds-read : take (length c.state.pins) (padded max_pins c.kinds) ≡ c.kinds
    kinds-read = padded-take max_pins c.kinds (length c.state.pins) p.kind_count

-- The deck of valid contents is sound.
pub deck-sound : (c : Contents) → ValidContents c → Sound (deck_of c)
deck-sound c v =
    let e = contents-deck c v in
    record { valid = subst⁻¹ ValidContents e v; same = ap deck_of (sym e) }

-- The contents of a sound deck settle its every place (SPEC 5.2).
pub sound_unique : (d e : Deck) → Sound d → Sound e → contents_of d ≡ contents_of e → d ≡ e
sound_unique d e s t q = s.same ∙ ap deck_of q ∙ sym t.same

-- What soundness gives: edges in the listing order, and points arranged.
module _ (d : Deck) (s : Sound d) where
  pub ends_are : d.ends ≡ edge_row (state_of d)
  unfolding deck_of
  ends_are = λ i. (s.same i).ends

  pub sound-arranged : Arranged d.points
  unfolding deck_of
  sound-arranged = subst⁻¹ Arranged (λ i. (s.same i).points) (valid-arranged (state_of d) s.valid.state)

same_points_lem : (q r : Points) → T (same_points q r) → q ≡ r
same_points_lem q r t =
    let a = and_parts (same_list q.pins r.pins) _ t in
    let b = and_parts (eqb q.npins r.npins) _ a.1 in
    let c = and_parts (same_list q.steiner r.steiner) (eqb q.nsteiner r.nsteiner) b.1 in
    λ i. record {
      pins = same_eq q.pins r.pins a.0 i;
      npins = eqb→eq q.npins r.npins b.0 i;
      steiner = same_eq q.steiner r.steiner c.0 i;
      nsteiner = eqb→eq q.nsteiner r.nsteiner c.1 i;
    }

self_points : (q : Points) → T (same_points q q)
self_points q =
    and_both (same_list q.pins q.pins) _ (same_refl q.pins)
    (and_both (eqb q.npins q.npins) _ (eqb_refl q.npins)
    (and_both (same_list q.steiner q.steiner) (eqb q.nsteiner q.nsteiner) (same_refl q.steiner) (eqb_refl q.nsteiner)))

-- A deck in working form with the points, the kinds and the tail of a deck has its contents.
pub same_contents : (d : Deck) (w : WorkingDeck) → w.form.points ≡ d.points → w.kinds ≡ d.kinds → w.tail ≡ d.tail
    → workingDeck.contents_of w ≡ contents_of d
same_contents d w e f g = λ i. with_tail (g i) (with_kinds (stateOfPoints (e i)) (take (e i).npins (f i)))

-- The test decides soundness.
pub sound_is : (d : Deck) → T (sound d) ↔ Sound d
unfolding sound
sound_is d = (
  λ t. let a = and_parts (valid_contents (contents_of d)) (same_deck d (deck_of (contents_of d))) t in
      record { valid = (valid_contents_is (contents_of d)).0 a.0; same = same (deck_of (contents_of d)) a.1 },
  λ s. and_both (valid_contents (contents_of d)) (same_deck d (deck_of (contents_of d))) ((valid_contents_is (contents_of d)).1 s.valid)
      (subst (λ (e : Deck). T (same_deck d e)) s.same self),
)
  where
    self : T (same_deck d d)
    self =
        and_both (same_points d.points d.points) _ (self_points d.points)
        (and_both (same_list d.kinds d.kinds) _ (same_refl d.kinds)
        (and_both (eqb d.tail d.tail) (same_list d.ends d.ends) (eqb_refl d.tail) (same_refl d.ends)))

    same : (e : Deck) → T (same_deck d e) → d ≡ e
    same e t =
        let a = and_parts (same_points d.points e.points) _ t in
        let b = and_parts (same_list d.kinds e.kinds) _ a.1 in
        let c = and_parts (eqb d.tail e.tail) (same_list d.ends e.ends) b.1 in
        λ i. record {
          points = same_points_lem d.points e.points a.0 i;
          kinds = same_eq d.kinds e.kinds b.0 i;
          tail = eqb→eq d.tail e.tail c.0 i;
          ends = same_eq d.ends e.ends c.1 i;
        }
