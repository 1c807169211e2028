-- The parts of check 11 say together that a deck is sound, and each fails only where it is not: a search for a weak Steiner point in
-- the working form of arranged points tells whether they are those of a valid state; with kinds, zeros behind them and the same edges the deck is
-- sound.
use mathlib.Core.Path.{◌≡◌, refl, sym, ap, ◌∙◌, subst, subst⁻¹}
use mathlib.Core.Bool.{Bool, false}
use mathlib.Core.Option.{Option, none}
use mathlib.Core.List.{List, Memᴰ}
use Prim.Native.Nat.{ℕ, ◌≤◌, ◌<◌}
use native.Mathlib.Omega.{arith}
use lib.Dec.{T, leb→le, le→leb}
use lib.ListN.{length, take}
use lib.Seq.{length-take-le}
use Rattle.arrays.specs.Set.{all}
use Rattle.arrays.proofs.Set.{all_in}
use Rattle.arrays.proofs.Test.{and_parts, and_both}
use Rattle.plane.specs.Point.{Point}
use Rattle.model.specs.Tree.{mst, edges_at}
use Rattle.model.specs.State.{State, points, Valid, valid, lowest_weak, max_pins}
use Rattle.model.specs.DeviceKinds.{largest_kind, is_kind}
use Rattle.model.specs.Tail.{longest_tail}
use Rattle.model.proofs.Prune.{LowestWeakView, all_strong, weak, lowest_weak_view}
use Rattle.model.proofs.Validity.{valid_is}
use Rattle.points.specs.declared.Points.{Points}
use Rattle.points.specs.Coded as coded
use Rattle.points.proofs.Codes.{codes_full}
use Rattle.points.proofs.Coded.{pins-count, arranged-coded}
use Rattle.points.proofs.check.Tests.{arranged_passes}
use Rattle.prune.specs.Weak.{weak_at}
use Rattle.working.specs.declared.Working.{Working}
use Rattle.working.specs.declared.deck.WorkingDeck.{WorkingDeck}
use Rattle.working.specs.WorkingDeck as workingDeck
use Rattle.working.specs.InOrder as work
use Rattle.working.proofs.InOrder.{arranged-placed}
use Rattle.prune.proofs.Sweep.{Found, none_weak, at, found, order-degree}
use Rattle.deck.specs.declared.Deck.{Deck}
use Rattle.deck.specs.Form.{deck_of, contents_of, state_of, Sound, sound}
use Rattle.deck.specs.Check.{valid_points, FormOf, WorkingOf}
use Rattle.deck.proofs.Form.{sound_is, sound-arranged, same_contents}

-- The search in a working form for a Steiner point of at most two edges.
module _ (w : Working) (j : ℕ) (is : j ≡ weak_at w) where
  abbrev tree : State → List Point → Option Point
  tree s l = lowest_weak (mst (points s)) l

  steiner : List ℕ
  steiner = take w.points.nsteiner w.points.steiner

  search : Found steiner (tree (work.state_of w) (work.state_of w).steiner) j
  unfolding steiner
  search =
      subst⁻¹ (Found steiner (tree (work.state_of w) (work.state_of w).steiner)) is
      (found (take w.npoints w.codes) (take w.nkeys w.keys) (mst (points (work.state_of w))) steiner (order-degree w))

  full : length steiner ≡ w.points.nsteiner
  unfolding steiner
  full = codes_full w.in_order.arranged.steiner_codes

  -- None was found: the state is valid.
  pub none_found : w.points.nsteiner ≤ j → Valid (work.state_of w)
  none_found h =
      record {
        few = omega (arith, pins-count w.points w.in_order.arranged, w.in_order.arranged.pin_codes.few);
        placed = arranged-placed w.points w.in_order.arranged;
        branching = go refl search (lowest_weak_view (mst (points (work.state_of w))) (work.state_of w).steiner);
      }
    where
      Strong : Type 0
      Strong = (q : Point) → Memᴰ q (work.state_of w).steiner → 3 ≤ edges_at q (mst (points (work.state_of w)))

      all : {o : Option Point} → o ≡ none → LowestWeakView (mst (points (work.state_of w))) (work.state_of w).steiner o → Strong
      all e (all_strong f) = f
      all e (weak q i k) = absurd (let z : ◌≡◌ {A = ℕ} 0 1 = cc in omega arith)

      go : {o : Option Point} {i : ℕ} → i ≡ j → Found steiner o i → LowestWeakView (mst (points (work.state_of w))) (work.state_of w).steiner o → Strong
      go q none_weak v = all refl v
      go q (at r l) v = absurd (omega (arith, full))

  -- One was found: it is not.
  pub one_found : j < w.points.nsteiner → ¬ Valid (work.state_of w)
  one_found h v = go refl search (lowest_weak_view (mst (points (work.state_of w))) (work.state_of w).steiner)
    where
      few : {o : Option Point} → ¬ (o ≡ none) → LowestWeakView (mst (points (work.state_of w))) (work.state_of w).steiner o → ⊥
      few n (all_strong f) = n refl
      few n (weak q i k) = omega (arith, v.branching q i, k)

      go : {o : Option Point} {i : ℕ} → i ≡ j → Found steiner o i → LowestWeakView (mst (points (work.state_of w))) (work.state_of w).steiner o → ⊥
      go q none_weak v = omega (arith, full)
      go q (at r l) v = few (λ e. let z : ◌≡◌ {A = ℕ} 0 1 = cc in omega arith) v

-- A test that answered no is no proof.
pub refuted : {a b : Bool} → a ≡ b → a ≡ false → ¬ T b
refuted e n t = subst T (sym e ∙ n) t

pub tail_fail : (d : Deck) → longest_tail < d.tail → ¬ T (sound d)
tail_fail d h t = omega (arith, h, ((sound_is d).0 t).valid.tailed)

-- The points of a deck, by the working form of points that are arranged.
module _ (q : Points) (w : Working) (a : w.points ≡ q) (j : ℕ) (is : j ≡ weak_at w) where
  pub points-weak : j < w.points.nsteiner → ¬ T (valid_points q)
  points-weak h t =
      one_found w j is h
      (subst⁻¹ (λ (z : Points). Valid (coded.state_of z)) a ((valid_is (coded.state_of q)).0 (and_parts (coded.arranged q) (valid (coded.state_of q)) t).1))

  pub points_pass : w.points.nsteiner ≤ j → T (coded.arranged q) → T (valid_points q)
  points_pass h t =
      and_both (coded.arranged q) (valid (coded.state_of q)) t
      ((valid_is (coded.state_of q)).1 (subst (λ (z : Points). Valid (coded.state_of z)) a (none_found w j is h)))

-- From the points to the whole deck: a deck that is sound passes each part.
module _ (d : Deck) where
  pub points_fail : valid_points d.points ≡ false → ¬ T (sound d)
  points_fail e t = subst T e (passed ((sound_is d).0 t))
    where
      passed : Sound d → T (valid_points d.points)
      passed s =
          and_both (coded.arranged d.points) (valid (state_of d)) (arranged_passes d.points (sound-arranged d s))
          ((valid_is (state_of d)).1 s.valid.state)

  pub kinds_fail : ¬ T (all is_kind (contents_of d).kinds) → ¬ T (sound d)
  kinds_fail n t = n ((all_in is_kind (contents_of d).kinds).1 (λ k i. le→leb k largest_kind (((sound_is d).0 t).valid.known k i)))

  module _ (w : Working) (f : FormOf (valid_points d.points) d.points w) (fits : d.tail ≤ longest_tail) where
    abbrev whole : WorkingDeck
    whole = record { form = w; kinds = d.kinds; tail = d.tail }

    same : workingDeck.contents_of whole ≡ contents_of d
    same = same_contents d whole f.same refl refl

    pub rest_fail : (a : Deck) → a ≡ deck_of (workingDeck.contents_of whole) → ¬ ((d.kinds ≡ a.kinds) × (d.ends ≡ a.ends)) → ¬ T (sound d)
    rest_fail a is n t =
        let e : d ≡ a = ((sound_is d).0 t).same ∙ sym (ap deck_of same) ∙ sym is in
        n (ap (λ (b : Deck). b.kinds) e, ap (λ (b : Deck). b.ends) e)

    pub rest_pass : length d.kinds ≡ max_pins → T (all is_kind (contents_of d).kinds)
        → (a : Deck) → a ≡ deck_of (workingDeck.contents_of whole) → (d.kinds ≡ a.kinds) × (d.ends ≡ a.ends) → WorkingOf (sound d) d whole
    rest_pass long known a is parts =
        record { holds = (sound_is d).1 proved; in_order = w.in_order; points = f.same; kinds = refl; tail = refl }
      where
        arranged : coded.Arranged d.points
        arranged = subst coded.Arranged f.same w.in_order.arranged

        valid-state : Valid (state_of d)
        valid-state = (valid_is (state_of d)).0 (and_parts (coded.arranged d.points) (valid (state_of d)) f.holds).1

        deck_is : a ≡ deck_of (contents_of d)
        deck_is = is ∙ ap deck_of same

        proved : Sound d
        proved =
            record {
              valid =
                  record {
                    state = valid-state;
                    kind_count =
                        length-take-le d.points.npins d.kinds (omega (arith, arranged.pin_codes.few, long)) ∙ sym (pins-count d.points arranged);
                    known = λ k i. leb→le k largest_kind ((all_in is_kind (contents_of d).kinds).0 known k i);
                    tailed = fits;
                  };
              same =
                  unfold deck_of in
                  (λ i. record {
                    points = arranged-coded d.points arranged i;
                    kinds = (parts.0 ∙ (λ k. (deck_is k).kinds)) i;
                    tail = d.tail;
                    ends = (parts.1 ∙ (λ k. (deck_is k).ends)) i;
                  });
            }
