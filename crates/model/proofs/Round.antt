-- A round keeps a state valid; it is finished exactly if no whole point shortens the tree; one that adds a point shortens the
-- tree by at least 1 and by at least the saving. So rounds alone end, and the run to the end is those rounds.
use mathlib.Core.Path.{◌≡◌, refl, ap, ◌∙◌, subst, subst⁻¹}
use mathlib.Core.Logic.{◌⊎◌, inl, inr, ⊎_elim, ◌↔◌}
use mathlib.Core.Option.{Option, none, some}
use mathlib.Core.List.{List, Memᴰ}
use Prim.Native.Nat.{ℕ, zero, suc, ◌+◌, ◌-◌, ◌≤◌, ◌<◌}
use native.Mathlib.Nat.{le_refl}
use native.Mathlib.Omega.{arith}
use lib.Dec.{T}
use Rattle.arrays.specs.Order.{Sorted}
use Rattle.arrays.proofs.Members.{sorted_ext}
use Rattle.plane.specs.Point.{Point, coordinate_in_range, in_range, lower, Lower}
use Rattle.plane.proofs.Order.{lower-order}
use Rattle.arrays.proofs.Test.{and_parts, and_both}
use Rattle.arrays.specs.Set.{put}
use Rattle.model.specs.Tree.{mst}
use Rattle.model.specs.Tail.{length_with, tree_length_with}
use Rattle.model.specs.State.{State, points, Placed, Valid, prune}
use Rattle.model.specs.Round.{RoundAnswer, finished, tap, RoundResult, with_steiner, round_with, round, Ended, rounds_from, finish}
use Rattle.model.specs.Choice.{Candidate}
use Rattle.model.specs.Question.{length_of_state}
use Rattle.model.specs.Session.{RoundsTo, ended, added, NoShorter}
use Rattle.arrays.proofs.Set.{put_in, put-sorted, put_or_free}
use Rattle.model.proofs.Tree.{put-tree}
use Rattle.model.proofs.Prune.{points_in_lem, points-rise, prune-leaves, pruned_with_tails, prune-valid}
use Rattle.model.proofs.Choice.{Choice, none_saves, some_chosen, best_choice, saved-shorter, unsaved_longer, no_more_saved}
use Rattle.model.proofs.Grid.{grid_with_tails}

-- The points with one more Steiner point.
pub points_with : (s : State) (c : Point) → Sorted Lower s.steiner → points (with_steiner c s) ≡ put lower c (points s)
points_with s c rise =
    sorted_ext lower-order (points (with_steiner c s)) (put lower c (points s))
    (points-rise (with_steiner c s) (put-sorted lower lower-order c s.steiner rise)) (put-sorted lower lower-order c (points s) (points-rise s rise))
    (λ p i. (put_in lower lower-order c p (points s)).1
    (⊎_elim (λ j. inr ((points_in_lem s p).1 (inl j)))
    (λ j. ⊎_elim (λ e. inl e) (λ k. inr ((points_in_lem s p).1 (inr k))) ((put_in lower lower-order c p s.steiner).0 j))
    ((points_in_lem (with_steiner c s) p).0 i)))
    (λ p i. (points_in_lem (with_steiner c s) p).1
    (⊎_elim (λ e. inr ((put_in lower lower-order c p s.steiner).1 (inl e)))
    (λ j. ⊎_elim (λ k. inl k) (λ k. inr ((put_in lower lower-order c p s.steiner).1 (inr k))) ((points_in_lem s p).0 j))
    ((put_in lower lower-order c p (points s)).0 i)))

-- A candidate is in range.
pub candidate_range : (s : State) → Placed s → (c : Point) → Candidate (points s) c → T (in_range c)
candidate_range s h c k =
    and_both (coordinate_in_range c.x) (coordinate_in_range c.y)
    (subst⁻¹ (λ z. T (coordinate_in_range z)) k.on_x.2
    (and_parts (coordinate_in_range k.on_x.0.x) (coordinate_in_range k.on_x.0.y) (held k.on_x.0 k.on_x.1)).0)
    (subst⁻¹ (λ z. T (coordinate_in_range z)) k.on_y.2
    (and_parts (coordinate_in_range k.on_y.0.x) (coordinate_in_range k.on_y.0.y) (held k.on_y.0 k.on_y.1)).1)
  where
    held : (p : Point) → Memᴰ p (points s) → T (in_range p)
    held p i = ⊎_elim (h.pins_range p) (h.steiner_range p) ((points_in_lem s p).0 i)

pub with_placed : (s : State) → Placed s → (c : Point) → Candidate (points s) c → Placed (with_steiner c s)
with_placed s h c k =
    record {
      pins_range = h.pins_range;
      steiner_range =
          λ p i. ⊎_elim (λ e. subst⁻¹ (λ z. T (in_range z)) e (candidate_range s h c k)) (h.steiner_range p)
          ((put_in lower lower-order c p s.steiner).0 i);
      pins_rise = h.pins_rise;
      steiner_rise = put-sorted lower lower-order c s.steiner h.steiner_rise;
      apart =
          λ p i j. ⊎_elim (λ e. k.free ((points_in_lem s c).1 (inl (subst (λ z. Memᴰ z s.pins) e i)))) (h.apart p i)
          ((put_in lower lower-order c p s.steiner).0 j);
    }

-- What a round does: it is finished and no candidate shortens the tree, or it adds a candidate that does, and prunes.
pub data Rounded (tail : ℕ) (s : State) : RoundResult → Type 0 where
  stays : ((c : Point) → Candidate (points s) c → tree_length_with tail (points s) ≤ tree_length_with tail (put lower c (points s)))
      → Rounded tail s (round_with tail s none)
  adds : (c : Point) → Candidate (points s) c → tree_length_with tail (put lower c (points s)) < tree_length_with tail (points s)
      → Rounded tail s (round_with tail s (some c))

pub round_view : (tail : ℕ) (s : State) → Rounded tail s (round tail s)
unfolding round
round_view tail s = go (best_choice tail (points s))
  where
    go : {o : Option Point} → Choice tail (points s) o
        → Rounded tail s (round_with tail s o)
    go (none_saves f) = stays (λ c k. unsaved_longer tail (points s) c (f c k))
    go (some_chosen c h) = adds c h.candidate (saved-shorter tail (points s) c h.saves)

-- After a round that adds c the tree is no longer than with c alone: the fall is at least the saving.
pub prune-shorter : (tail : ℕ) (s : State) → Valid s → (c : Point) → Candidate (points s) c
    → tree_length_with tail (points (prune (with_steiner c s))) ≤ tree_length_with tail (put lower c (points s))
prune-shorter tail s v c k =
    subst (λ (z : List Point). tree_length_with tail (points (prune (with_steiner c s))) ≤ tree_length_with tail z) (points_with s c v.placed.steiner_rise)
    (pruned_with_tails tail (with_steiner c s) (prune (with_steiner c s)) (prune-leaves (with_steiner c s) h.steiner_rise h.apart) h.steiner_rise)
  where
    h : Placed (with_steiner c s)
    h = with_placed s v.placed c k

pub round-valid : (tail : ℕ) (s : State) → Valid s → Valid (round tail s).next
round-valid tail s v = go (round_view tail s)
  where
    go : {r : RoundResult} → Rounded tail s r → Valid r.next
    go (stays f) = v
    go (adds c k h) = prune-valid (with_steiner c s) v.few (with_placed s v.placed c k)

-- A round that names a tap takes 1 cm off the tree at least, and its answer says how much.
pub round-falls : (tail : ℕ) (s : State) → Valid s → (c : Point) (fall : ℕ) → (round tail s).answer ≡ tap c fall
    → (1 ≤ fall) × (length_of_state tail (round tail s).next + fall ≡ length_of_state tail s)
    × (length_of_state tail s ≤ tree_length_with tail (put lower c (points s)) + fall)
round-falls tail s v c fall e = go (round_view tail s) e
  where
    go : {r : RoundResult} → Rounded tail s r → r.answer ≡ tap c fall
        → (1 ≤ fall) × (length_of_state tail r.next + fall ≡ length_of_state tail s)
        × (length_of_state tail s ≤ tree_length_with tail (put lower c (points s)) + fall)
    go (stays f) q = absurd (let z : ◌≡◌ {A = ℕ} 0 1 = cc in omega arith)
    go (adds d k h) q =
        let ec : d ≡ c = cc in
        let ef : tree_length_with tail (points s) - tree_length_with tail (points (prune (with_steiner d s))) ≡ fall = cc in
        let m = prune-shorter tail s v d k in (
          omega arith,
          omega arith,
          subst (λ (z : Point). tree_length_with tail (points s) ≤ tree_length_with tail (put lower z (points s)) + fall) ec (omega arith),
        )

-- Finished exactly if no whole point shortens the tree.
pub round-finished : (tail : ℕ) (s : State) → Valid s → ((round tail s).answer ≡ finished) ↔ ((q : Point) → ¬ Memᴰ q (points s) → NoShorter tail s q)
round-finished tail s v = go (round_view tail s)
  where
    rise : Sorted Lower (points s)
    rise = points-rise s v.placed.steiner_rise

    go : {r : RoundResult} → Rounded tail s r → (r.answer ≡ finished) ↔ ((q : Point) → ¬ Memᴰ q (points s) → NoShorter tail s q)
    go (stays f) = (λ e q far t tree. grid_with_tails tail (points s) rise f q far t tree, λ g. refl)
    go (adds c k h) = (
      λ e. absurd (let z : ◌≡◌ {A = ℕ} 0 1 = cc in omega arith),
      λ g. absurd (omega (arith, g c k.free (mst (put lower c (points s))) (put-tree (points s) rise c), with_length)),
    )
      where
        with_length : tree_length_with tail (put lower c (points s)) ≡ length_with tail (mst (put lower c (points s)))
        with_length = unfold tree_length_with in refl

-- Where a round is finished, the tree of the points and one more, held already or not, is at least as long.
pub finished-least : (tail : ℕ) (s : State) → Valid s → (round tail s).answer ≡ finished → (c : Point)
    → length_of_state tail s ≤ tree_length_with tail (put lower c (points s))
unfolding tree_length_with
finished-least tail s v e c =
    ⊎_elim (λ same. omega (arith, ap (tree_length_with tail) same))
    (λ free. (round-finished tail s v).0 e c free (mst (put lower c (points s))) (put-tree (points s) rise c))
    (put_or_free lower lower-order c (points s) rise)
  where
    rise : Sorted Lower (points s)
    rise = points-rise s v.placed.steiner_rise

-- After a round the tree is at most as long as that of the points before it and any one point d on the x of a held point and the y of a held
-- point: no candidate saves more than the one chosen.
pub round-best : (tail : ℕ) (s : State) → Valid s → (d : Point) → (a : Point) × Memᴰ a (points s) × (d.x ≡ a.x)
    → (b : Point) × Memᴰ b (points s) × (d.y ≡ b.y) → length_of_state tail (round tail s).next ≤ tree_length_with tail (put lower d (points s))
unfolding round
round-best tail s v d on_x on_y = go (best_choice tail (points s)) (put_or_free lower lower-order d (points s) (points-rise s v.placed.steiner_rise))
  where
    candidate : ¬ Memᴰ d (points s) → Candidate (points s) d
    candidate free = record { on_x = on_x; on_y = on_y; free = free }

    go : {o : Option Point} → Choice tail (points s) o → (put lower d (points s) ≡ points s) ⊎ ¬ Memᴰ d (points s)
        → length_of_state tail (round_with tail s o).next ≤ tree_length_with tail (put lower d (points s))
    go (none_saves f) (inl same) = omega (arith, ap (tree_length_with tail) same)
    go (none_saves f) (inr free) = unsaved_longer tail (points s) d (f d (candidate free))
    go (some_chosen c h) (inl same) =
        omega (arith, ap (tree_length_with tail) same, prune-shorter tail s v c h.candidate, saved-shorter tail (points s) c h.saves)
    go (some_chosen c h) (inr free) =
        omega (arith, prune-shorter tail s v c h.candidate, no_more_saved tail (points s) c d (h.most d (candidate free)))

-- A tree of no length can't be shortened, so its round is finished.
finished_at_zero : (tail : ℕ) (s : State) → length_of_state tail s ≤ 0 → (round tail s).answer ≡ finished
finished_at_zero tail s h = go (round_view tail s)
  where
    go : {r : RoundResult} → Rounded tail s r → r.answer ≡ finished
    go (stays f) = refl
    go (adds c k g) = absurd (omega arith)

-- The rounds of a run to the end, with enough of them allowed.
rounds_from_lem : (tail k : ℕ) (s : State) → Valid s → length_of_state tail s ≤ k
    → RoundsTo tail s (rounds_from tail k s).count (rounds_from tail k s).final × ((rounds_from tail k s).count ≤ length_of_state tail s)
unfolding rounds_from
rounds_from_lem tail zero s v h = (ended (finished_at_zero tail s h), omega arith)
rounds_from_lem tail (suc k) s v h =
    go (round tail s).answer refl (λ g. rounds_from_lem tail k (round tail s).next (round-valid tail s v) g)
  where
    next : State
    next = (round tail s).next

    result : RoundAnswer → Ended
    result a =
        let e = rounds_from tail k (round tail s).next in
        elim a [ finished ↦ record { final = s; count = 0 } | tap c fall ↦ record { final = e.final; count = suc e.count } ]

    go : (a : RoundAnswer) → (round tail s).answer ≡ a
        → (length_of_state tail next ≤ k → RoundsTo tail next (rounds_from tail k next).count (rounds_from tail k next).final
        × ((rounds_from tail k next).count ≤ length_of_state tail next))
        → RoundsTo tail s (result a).count (result a).final × ((result a).count ≤ length_of_state tail s)
    go finished e rec = (ended e, omega arith)
    go (tap c fall) e rec =
        let f = round-falls tail s v c fall e in
        let r = rec (omega arith) in
        (added e r.0, omega arith)

pub finish-rounds : (tail : ℕ) (s : State) → Valid s
    → RoundsTo tail s (finish tail s).count (finish tail s).final × ((finish tail s).count ≤ length_of_state tail s)
unfolding finish
finish-rounds tail s v = rounds_from_lem tail (tree_length_with tail (points s)) s v (le_refl (tree_length_with tail (points s)))

-- Rounds alone keep a state valid.
pub rounds-valid : {tail : ℕ} {s r : State} {k : ℕ} → RoundsTo tail s k r → Valid s → Valid r
rounds-valid (ended e) v = v
rounds-valid {tail = tail} (added {s = s} e t) v = rounds-valid t (round-valid tail s v)

-- Rounds alone keep the pins, and end where a round is finished.
pub round-pins : (tail : ℕ) (s : State) → Valid s → (round tail s).next.pins ≡ s.pins
round-pins tail s v = go (round_view tail s)
  where
    go : {r : RoundResult} → Rounded tail s r → r.next.pins ≡ s.pins
    go (stays f) = refl
    go (adds c k h) = let p = with_placed s v.placed c k in (prune-leaves (with_steiner c s) p.steiner_rise p.apart).pins

pub rounds-pins : {tail : ℕ} {s r : State} {k : ℕ} → RoundsTo tail s k r → Valid s → r.pins ≡ s.pins
rounds-pins (ended e) v = refl
rounds-pins {tail = tail} (added {s = s} e t) v = rounds-pins t (round-valid tail s v) ∙ round-pins tail s v

pub rounds-finished : {tail : ℕ} {s r : State} {k : ℕ} → RoundsTo tail s k r → (round tail r).answer ≡ finished
rounds-finished (ended e) = e
rounds-finished (added e t) = rounds-finished t
