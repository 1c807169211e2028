-- Cable by kind: the kind of a run is the one that the relation says, by whether each of its ends is a pin; and the lengths of the three kinds are the
-- whole length, as every run counts for one of them, by induction over the runs.
use mathlib.Core.Path.{◌≡◌, refl, sym, ap, ◌∙◌, subst}
use mathlib.Core.Logic.{◌↔◌, ◌⊎◌, inl, inr, ⊎_elim}
use mathlib.Core.Bool.{Bool, true, false}
use mathlib.Core.List.{List, [], ◌∷◌, ◌++◌, Memᴰ}
use Prim.Native.Nat.{ℕ, zero, suc, ◌+◌, ◌≤◌}
use native.Mathlib.Decide.{dec_le}
use native.Mathlib.Omega.{arith}
use lib.Dec.{T, eqb, eqb→eq}
use lib.Ieee.Fits.{eq→eqb}
use Rattle.arrays.specs.Test.{if}
use Rattle.arrays.specs.Set.{has, passing}
use Rattle.arrays.proofs.Test.{of_true}
use Rattle.arrays.proofs.Set.{has_in, passing_in, set_of_in, set_of-sorted}
use Rattle.arrays.proofs.Members.{sorted_distinct}
use Rattle.arrays.proofs.Beside.{beside_one, beside_none}
use Rattle.spanning.specs.Graph.{total}
use Rattle.spanning.proofs.Totals.{total_same_members}
use Rattle.plane.specs.Point.{Point, lower}
use Rattle.plane.specs.Edge.{Edge, listed_before}
use Rattle.plane.proofs.Order.{lower-order, listed-order, before-order}
use Rattle.model.specs.Tail.{run_length, tree_length_with}
use Rattle.model.specs.DeviceKinds.{sensor, largest_kind}
use Rattle.model.specs.Contents.{Contents, kind_at, ValidContents}
use Rattle.model.specs.Question.{tree_of, listed, length_of_contents}
use Rattle.model.specs.KindLength.{run_kind, of_kind, length_in, AtEnd, RunKind, KindLengths}
use Rattle.model.proofs.FileSize.{tree_of_lem}

-- The kind of a run and the relation.
module _ (c : Contents) where
  pin? : (p : Point) → Dec (Memᴰ p c.state.pins)
  pin? p = go (has lower p c.state.pins) refl
    where
      go : (b : Bool) → has lower p c.state.pins ≡ b → Dec (Memᴰ p c.state.pins)
      go true e = yes ((has_in lower lower-order p c.state.pins).0 (of_true e))
      go false e = no (λ i. subst T e ((has_in lower lower-order p c.state.pins).1 i))

  no_pin_lem : (p : Point) → ¬ Memᴰ p c.state.pins → kind_at c p ≡ sensor
  no_pin_lem p n = beside_none lower lower-order sensor p c.state.pins c.kinds n

  -- The larger kind of the two ends is the kind of the run.
  run_kind_lem : (e : Edge) → RunKind c e (run_kind c e)
  unfolding run_kind
  run_kind_lem e =
      record {
        largest = λ p a i. ⊎_elim (λ q. omega (arith, ap (kind_at c) q)) (λ q. omega (arith, ap (kind_at c) q)) a;
        held = ⊎_elim (λ h. from e.lo (inl refl) (omega arith)) (λ h. from e.hi (inr refl) (omega arith)) larger;
      }
    where
      larger : (kind_at c e.hi ≤ kind_at c e.lo) ⊎ (kind_at c e.lo ≤ kind_at c e.hi)
      larger = go (dec_le (kind_at c e.hi) (kind_at c e.lo))
        where
          go : Dec (kind_at c e.hi ≤ kind_at c e.lo) → (kind_at c e.hi ≤ kind_at c e.lo) ⊎ (kind_at c e.lo ≤ kind_at c e.hi)
          go (yes h) = inl h
          go (no n) = inr (omega arith)

      from : {k : ℕ} (p : Point) → AtEnd p e → kind_at c p ≡ k
          → (k ≡ sensor) ⊎ ((q : Point) × AtEnd q e × Memᴰ q c.state.pins × (kind_at c q ≡ k))
      from {k} p a f = go (pin? p)
        where
          go : Dec (Memᴰ p c.state.pins)
              → (k ≡ sensor) ⊎ ((q : Point) × AtEnd q e × Memᴰ q c.state.pins × (kind_at c q ≡ k))
          go (yes i) = inr (p, a, i, f)
          go (no n) = inl (sym f ∙ no_pin_lem p n)

  -- No run has two kinds.
  at_most : (e : Edge) (j k : ℕ) → RunKind c e j → RunKind c e k → j ≤ k
  at_most e j k r s =
      ⊎_elim (λ z. omega (arith, z)) (λ m. omega (arith, m.3, s.largest m.0 m.1 m.2)) r.held

  one_kind_lem : (e : Edge) (j k : ℕ) → RunKind c e j → RunKind c e k → j ≡ k
  one_kind_lem e j k r s = omega (arith, at_most e j k r s, at_most e k j s r)

  members : (k : ℕ) (l : List Edge) (e : Edge) → Memᴰ e (of_kind c k l) ↔ (Memᴰ e l × RunKind c e k)
  members k l e = (
    λ i. let r = in_kind.0 i in
        (r.0, subst (RunKind c e) (eqb→eq (run_kind c e) k r.1) (run_kind_lem e)),
    λ p. in_kind.1 (p.0, eq→eqb (one_kind_lem e (run_kind c e) k (run_kind_lem e) p.1)),
  )
    where
      in_kind : Memᴰ e (of_kind c k l) ↔ (Memᴰ e l × T (eqb (run_kind c e) k))
      in_kind = passing_in (λ (d : Edge). eqb (run_kind c d) k) l e

-- What a run of kind r and of length n adds to the length of kind k.
abbrev pub share : ℕ → ℕ → ℕ → ℕ
share r n k = if (eqb r k) (λ _. n) (λ _. 0)

pub shares_sum : (r n : ℕ) → r ≤ largest_kind → share r n 0 + share r n 1 + share r n 2 ≡ n
shares_sum zero n h = omega arith
shares_sum (suc zero) n h = omega arith
shares_sum (suc (suc zero)) n h = omega arith
shares_sum (suc (suc (suc r))) n h = absurd (omega arith)

-- One run more, in front and behind.
module _ (c : Contents) (k : ℕ) where
  length_front : (e : Edge) (l : List Edge) → length_in c (e ∷ l) k ≡ share (run_kind c e) (run_length c.tail e) k + length_in c l k
  unfolding passing total
  length_front e l = go (eqb (run_kind c e) k)
    where
      go : (b : Bool)
          → total (run_length c.tail) (if b (λ _. e ∷ of_kind c k l) (λ _. of_kind c k l)) ≡ if b (λ _. run_length c.tail e) (λ _. 0) + length_in c l k
      go true = refl
      go false = omega arith

  pub length_none : length_in c [] k ≡ 0
  unfolding passing total
  length_none = refl

  pub length_behind : (l : List Edge) (e : Edge) → length_in c (l ++ (e ∷ [])) k ≡ length_in c l k + share (run_kind c e) (run_length c.tail e) k
  length_behind [] e = omega (arith, length_front e [], length_none)
  length_behind (d ∷ l) e = omega (arith, length_front d (l ++ (e ∷ [])), length_front d l, length_behind l e)

-- Of valid contents.
module _ (c : Contents) (v : ValidContents c) where
  kind_known : (p : Point) → kind_at c p ≤ largest_kind
  kind_known p = beside_one lower (λ (z : ℕ). z ≤ largest_kind) sensor (omega arith) p c.state.pins c.kinds v.known

  pub run_kind-known : (e : Edge) → run_kind c e ≤ largest_kind
  unfolding run_kind
  run_kind-known e = omega (arith, kind_known e.lo, kind_known e.hi)

  lengths-sum : (l : List Edge) → length_in c l 0 + length_in c l 1 + length_in c l 2 ≡ total (run_length c.tail) l
  unfolding total
  lengths-sum [] = omega (arith, length_none c 0, length_none c 1, length_none c 2)
  lengths-sum (e ∷ l) =
      omega (
        arith,
        length_front c 0 e l,
        length_front c 1 e l,
        length_front c 2 e l,
        shares_sum (run_kind c e) (run_length c.tail e) (run_kind-known e),
        lengths-sum l,
      )

  -- The runs listed are those of the tree.
  listed-total : total (run_length c.tail) (listed c.state) ≡ length_of_contents c
  unfolding listed tree_length_with
  listed-total =
      total_same_members (run_length c.tail) (listed c.state) (tree_of c.state)
      (sorted_distinct listed-order (listed c.state) (set_of-sorted listed_before listed-order (tree_of c.state)))
      (sorted_distinct before-order (tree_of c.state) (tree_of_lem c.state v.state.placed).sorted)
      (set_of_in listed_before listed-order (tree_of c.state))

  pub kind_lengths_lem : KindLengths c
  kind_lengths_lem =
      record {
        members = λ k e. members c k (listed c.state) e;
        one_kind = one_kind_lem c;
        known = λ e. (run_kind c e, run_kind_lem c e, run_kind-known e);
        sum = lengths-sum (listed c.state) ∙ listed-total;
      }
