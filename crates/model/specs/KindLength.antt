-- Cable by the kind of device (SPEC 1.8): the kind of a run, and how long the runs of each kind are together.
use Rattle.std.specs.Prelude.{◌≡◌, ◌↔◌, ◌⊎◌, ℕ, ◌+◌, ◌≤◌, max, eqb}
use mathlib.Core.List.{List, [], ◌∷◌, Memᴰ}
use Rattle.arrays.specs.Set.{passing}
use Rattle.spanning.specs.Graph.{total}
use Rattle.plane.specs.Point.{Point}
use Rattle.plane.specs.Edge.{Edge}
use Rattle.model.specs.DeviceKinds.{sensor, largest_kind}
use Rattle.model.specs.Contents.{Contents, kind_at}
use Rattle.model.specs.Tail.{run_length}
use Rattle.model.specs.Question.{listed, length_of_contents}

-- The kind of a run: the larger of the kinds at its two ends. `kind_at` is that of a sensor where no pin stands, so a tap counts as one.
unfoldable pub run_kind : Contents → Edge → ℕ
run_kind c e = max (kind_at c e.lo) (kind_at c e.hi)

-- Those of some runs that are of kind k, in the same order.
abbrev pub of_kind : Contents → ℕ → List Edge → List Edge
of_kind c k l = passing (λ (e : Edge). eqb (run_kind c e) k) l

-- How long those of some runs are together that are of kind k.
abbrev pub length_in : Contents → List Edge → ℕ → ℕ
length_in c l k = total (run_length c.tail) (of_kind c k l)

-- The length of a kind: how long its runs are together, of all runs listed.
abbrev pub kind_length : Contents → ℕ → ℕ
kind_length c k = length_in c (listed c.state) k

-- The lengths of the kinds 0, 1 and 2.
abbrev pub kind_lengths : Contents → List ℕ
kind_lengths c = kind_length c 0 ∷ kind_length c 1 ∷ kind_length c 2 ∷ []

-- A point is an end of a run.
abbrev pub AtEnd : Point → Edge → Type 0
AtEnd p e = (p ≡ e.lo) ⊎ (p ≡ e.hi)

-- The kind of a run, apart from how it is worked out: no pin at an end of it is of a larger kind, and one there is of this kind unless it is that of
-- a sensor.
pub record RunKind (c : Contents) (e : Edge) (k : ℕ) : Type 0 where
  pub largest : (p : Point) → AtEnd p e → Memᴰ p c.state.pins → kind_at c p ≤ k
  pub held : (k ≡ sensor) ⊎ ((p : Point) × AtEnd p e × Memᴰ p c.state.pins × (kind_at c p ≡ k))

-- What is claimed of the lengths by kind.
pub record KindLengths (c : Contents) : Type 0 where
  -- the runs that count for a kind are those listed that are of it
  pub members : (k : ℕ) (e : Edge) → Memᴰ e (of_kind c k (listed c.state)) ↔ (Memᴰ e (listed c.state) × RunKind c e k)
  -- a run has one kind, which is known
  pub one_kind : (e : Edge) (j k : ℕ) → RunKind c e j → RunKind c e k → j ≡ k
  pub known : (e : Edge) → (k : ℕ) × RunKind c e k × (k ≤ largest_kind)
  -- the three lengths are the whole length
  pub sum : kind_length c 0 + kind_length c 1 + kind_length c 2 ≡ length_of_contents c
