-- The sweep ends with every Steiner point at three edges or more, keeps the pins, adds no point and never lengthens the tree.
-- By induction on the number of Steiner points left: each removal takes out one of at most two edges.
use mathlib.Core.Path.{◌≡◌, refl, ap, subst, subst⁻¹}
use mathlib.Core.Logic.{◌⊎◌, inl, inr, ⊎_elim, ◌↔◌}
use mathlib.Core.Option.{Option, none, some}
use mathlib.Core.List.Memᴰ.{cases_cons as cases}
use mathlib.Core.List.Memᴰ.{head}
use mathlib.Core.List.Memᴰ.{not-nil}
use mathlib.Core.List.Memᴰ.{tail as behind}
use mathlib.Core.List.{List, [], ◌∷◌, Memᴰ}
use Prim.Native.Nat.{ℕ, zero, suc, ◌+◌, ◌-◌, ◌≤◌}
use native.Mathlib.Nat.{le_refl, le_trans}
use native.Mathlib.Omega.{arith}
use lib.Dec.{leb, leb→le, nleb→lt}
use lib.ListN.{length}
use Rattle.arrays.specs.Order.{Sorted}
use Rattle.arrays.proofs.Members.{Distinct, sorted_distinct, sorted_ext}
use Rattle.spanning.proofs.Totals.{some_members-length}
use Rattle.spanning.proofs.Degree.{branches_some}
use Rattle.plane.specs.Point.{Point, lower, Lower}
use Rattle.plane.specs.Edge.{Edge, planar}
use Rattle.plane.proofs.Order.{lower-order}
use Rattle.arrays.proofs.Test.{by_test}
use Rattle.arrays.specs.Set.{out}
use Rattle.model.specs.Tree.{mst, tree_length, edges_at}
use Rattle.model.specs.Tail.{tree_length_with}
use Rattle.model.specs.State.{State, points, strong, Placed, Valid, lowest_weak, without, prune_from, prune, max_pins}
use Rattle.arrays.proofs.Set.{out_in, out-sorted, out-length, union_in, union-sorted}
use Rattle.model.proofs.Tree.{mst-run-tree}
use Rattle.model.proofs.Tail.{fewer_points}
use Rattle.model.proofs.Removal.{removal}

-- The points held.
pub points_in_lem : (s : State) (p : Point) → Memᴰ p (points s) ↔ (Memᴰ p s.pins ⊎ Memᴰ p s.steiner)
unfolding points
points_in_lem s p = union_in lower lower-order s.pins s.steiner p

pub points-rise : (s : State) → Sorted Lower s.steiner → Sorted Lower (points s)
unfolding points
points-rise s h = union-sorted lower lower-order s.pins s.steiner h

-- What the search for a Steiner point of at most two edges finds: none, or the lowest.
pub data LowestWeakView (t : List Edge) (l : List Point) : Option Point → Type 0 where
  all_strong : ((q : Point) → Memᴰ q l → 3 ≤ edges_at q t) → LowestWeakView t l none
  weak : (q : Point) → Memᴰ q l → edges_at q t ≤ 2 → LowestWeakView t l (some q)

pub lowest_weak_view : (t : List Edge) (l : List Point) → LowestWeakView t l (lowest_weak t l)
unfolding lowest_weak
lowest_weak_view t [] = all_strong (λ q i. absurd (not-nil i))
lowest_weak_view t (a ∷ l) =
    by_test (LowestWeakView t (a ∷ l)) (strong t a) (λ _. lowest_weak t l) (λ _. some a) (λ h. later (leb→le 3 (edges_at a t) h) (lowest_weak_view t l))
    (λ n. weak a (head refl) (omega (arith, nleb→lt 3 (edges_at a t) n)))
  where
    later : 3 ≤ edges_at a t → {o : Option Point} → LowestWeakView t l o → LowestWeakView t (a ∷ l) o
    later h (all_strong f) = all_strong (λ q i. ⊎_elim (λ e. subst⁻¹ (λ (z : Point). 3 ≤ edges_at z t) e h) (f q) (cases i))
    later h (weak q i k) = weak q (behind i) k

-- One step of the sweep, and its end.
pub prune-step : (k : ℕ) (s : State) (q : Point) → lowest_weak (mst (points s)) s.steiner ≡ some q → prune_from (suc k) s ≡ prune_from k (without q s)
unfolding prune_from
prune-step k s q e = ap (λ (o : Option Point). elim o as (λ _. State) [ none ↦ s | some z ↦ prune_from k (without z s) ]) e

pub prune-stop : (k : ℕ) (s : State) → lowest_weak (mst (points s)) s.steiner ≡ none → prune_from k s ≡ s
unfolding prune_from
prune-stop zero s e = refl
prune-stop (suc k) s e = ap (λ (o : Option Point). elim o as (λ _. State) [ none ↦ s | some z ↦ prune_from k (without z s) ]) e

-- The points without a Steiner point.
points-without : (s : State) (q : Point) → Sorted Lower s.steiner → (Memᴰ q s.pins → ⊥) → points (without q s) ≡ out lower q (points s)
points-without s q rise far =
    sorted_ext lower-order (points (without q s)) (out lower q (points s)) (points-rise (without q s) (out-sorted lower lower-order q s.steiner rise))
    (out-sorted lower lower-order q (points s) (points-rise s rise))
    (λ p i. (out_in lower lower-order q p (points s)).1
    (⊎_elim (λ j. ((points_in_lem s p).1 (inl j), λ e. far (subst (λ (z : Point). Memᴰ z s.pins) e j)))
    (λ j. let o = (out_in lower lower-order q p s.steiner).0 j in ((points_in_lem s p).1 (inr o.0), o.1)) ((points_in_lem (without q s) p).0 i)))
    (λ p i. let o = (out_in lower lower-order q p (points s)).0 i in
    (points_in_lem (without q s) p).1
    (⊎_elim (λ j. inl j) (λ j. inr ((out_in lower lower-order q p s.steiner).1 (j, o.1))) ((points_in_lem s p).0 o.0)))

pub none_there : (l : List Point) → length l ≤ 0 → (q : Point) → Memᴰ q l → ⊥
none_there [] h q i = not-nil i
none_there (a ∷ l) h q i = omega arith

-- What a sweep of s leaves, r.
pub record Pruned (s r : State) : Type 0 where
  pub pins : r.pins ≡ s.pins
  pub part : (q : Point) → Memᴰ q r.steiner → Memᴰ q s.steiner
  pub rise : Sorted Lower r.steiner
  pub branching : (q : Point) → Memᴰ q r.steiner → 3 ≤ edges_at q (mst (points r))
  pub shorter : tree_length (points r) ≤ tree_length (points s)

prune_from_lem : (k : ℕ) (s : State) → Sorted Lower s.steiner → ((p : Point) → Memᴰ p s.pins → Memᴰ p s.steiner → ⊥)
    → length s.steiner ≤ k → Pruned s (prune_from k s)
unfolding prune_from
prune_from_lem zero s rise far h =
    record { pins = refl; part = λ q i. i; rise = rise; branching = λ q i. absurd (none_there s.steiner h q i); shorter = le_refl (tree_length (points s)) }
prune_from_lem (suc k) s rise far h =
    go (lowest_weak (mst (points s)) s.steiner) (lowest_weak_view (mst (points s)) s.steiner)
    (λ q i. prune_from_lem k (without q s) (out-sorted lower lower-order q s.steiner rise)
    (λ p i j. far p i ((out_in lower lower-order q p s.steiner).0 j).0) (omega (arith, out-length lower lower-order q s.steiner rise i)))
  where
    go : (o : Option Point) → LowestWeakView (mst (points s)) s.steiner o
        → ((q : Point) → Memᴰ q s.steiner → Pruned (without q s) (prune_from k (without q s)))
        → Pruned s (elim o as (λ _. State) [ none ↦ s | some q ↦ prune_from k (without q s) ])
    go o (all_strong f) rec = record { pins = refl; part = λ q i. i; rise = rise; branching = f; shorter = le_refl (tree_length (points s)) }
    go o (weak q i two) rec =
        record {
          pins = (rec q i).pins;
          part = λ p j. ((out_in lower lower-order q p s.steiner).0 ((rec q i).part p j)).0;
          rise = (rec q i).rise;
          branching = (rec q i).branching;
          shorter =
              le_trans (rec q i).shorter
              (subst⁻¹ (λ (z : List Point). tree_length z ≤ tree_length (points s)) (points-without s q rise (λ j. far q j i))
              (removal (points s) (points-rise s rise) q ((points_in_lem s q).1 (inr i)) two));
        }

pub prune-leaves : (s : State) → Sorted Lower s.steiner → ((p : Point) → Memᴰ p s.pins → Memᴰ p s.steiner → ⊥) → Pruned s (prune s)
unfolding prune
prune-leaves s rise far = prune_from_lem (length s.steiner) s rise far (le_refl (length s.steiner))

-- What a sweep leaves is no longer with tails either: no point joins, so there are no more runs.
pub pruned_with_tails : (tail : ℕ) (s r : State) → Pruned s r → Sorted Lower s.steiner → tree_length_with tail (points r) ≤ tree_length_with tail (points s)
pruned_with_tails tail s r h rise =
    fewer_points tail (points r) (points s) (points-rise r h.rise) (points-rise s rise)
    (some_members-length (points r) (points s) (sorted_distinct lower-order (points r) (points-rise r h.rise)) kept) h.shorter
  where
    kept : (p : Point) → Memᴰ p (points r) → Memᴰ p (points s)
    kept p i =
        (points_in_lem s p).1
        (⊎_elim (λ j. inl (subst (λ (l : List Point). Memᴰ p l) h.pins j)) (λ j. inr (h.part p j)) ((points_in_lem r p).0 i))

-- A sweep of a placed state with few pins is valid.
pub prune-valid : (s : State) → length s.pins ≤ max_pins → Placed s → Valid (prune s)
prune-valid s few h =
    record {
      few = subst⁻¹ (λ (l : List Point). length l ≤ max_pins) p.pins few;
      placed =
          record {
            pins_range = λ q i. h.pins_range q (in_pins_lem q i);
            steiner_range = λ q i. h.steiner_range q (p.part q i);
            pins_rise = subst⁻¹ (Sorted Lower) p.pins h.pins_rise;
            steiner_rise = p.rise;
            apart = λ q i j. h.apart q (in_pins_lem q i) (p.part q j);
          };
      branching = p.branching;
    }
  where
    p : Pruned s (prune s)
    p = prune-leaves s h.steiner_rise h.apart

    in_pins_lem : (q : Point) → Memᴰ q (prune s).pins → Memᴰ q s.pins
    in_pins_lem q i = subst (λ (l : List Point). Memᴰ q l) p.pins i

-- Taps are two fewer than pins at least, or there are none (SPEC 4.1).
pub few-steiner : (s : State) → Valid s → (length s.steiner ≡ 0) ⊎ (length s.steiner + 2 ≤ length s.pins)
unfolding planar
few-steiner s v = go (length s.steiner) refl
  where
    d : (l : List Point) → Sorted Lower l → Distinct l
    d l r = sorted_distinct lower-order l r

    rise : Sorted Lower (points s)
    rise = points-rise s v.placed.steiner_rise

    go : (n : ℕ) → length s.steiner ≡ n → (length s.steiner ≡ 0) ⊎ (length s.steiner + 2 ≤ length s.pins)
    go zero e = inl e
    go (suc n) e =
        inr (branches_some planar (points s) (mst (points s)) (d (points s) rise) (mst-run-tree (points s) rise).tree s.pins s.steiner
        (d s.pins v.placed.pins_rise) (d s.steiner v.placed.steiner_rise) v.placed.apart (points_in_lem s) v.branching (omega arith))
