-- What tails leave as it was (SPEC 1.6, 2.1, 2.2): the order of runs, and THE tree of points, which is also the least with tails counted. And what
-- calls leave of a tail (SPEC 4.8).
use Rattle.std.specs.Prelude.{◌≡◌, ◌↔◌, ℕ, ◌≤◌, T}
use mathlib.Core.List.{List, Memᴰ}
use Rattle.spanning.specs.Graph.{Tree}
use Rattle.arrays.specs.Order.{Sorted, First}
use Rattle.plane.specs.Point.{Point, Lower}
use Rattle.plane.specs.Edge.{Edge, Rising, before, planar}
use Rattle.model.specs.Tree.{TheTree}
use Rattle.model.specs.Tail.{length_with, before_with}
use Rattle.model.specs.Contents.{Contents}
use Rattle.model.specs.Call.{Call, set_tail, done, refused, step}

-- r comes before s, by their lengths with tails.
abbrev pub BeforeWith : ℕ → Edge → Edge → Type 0
BeforeWith tail r s = T (before_with tail r s)

-- A tree over the points as a set of runs, in the order of runs with tails.
pub record RunTreeWith (tail : ℕ) (ps : List Point) (t : List Edge) : Type 0 where
  pub tree : Tree planar ps t
  pub rising : (e : Edge) → Memᴰ e t → Rising e
  pub sorted : Sorted (BeforeWith tail) t

-- THE tree (SPEC 2.2) by lengths with tails: no tree is shorter, and of those as long it comes first.
pub record TheTreeWith (tail : ℕ) (ps : List Point) (t : List Edge) : Type 0 where
  pub tree : RunTreeWith tail ps t
  pub least : (u : List Edge) → RunTreeWith tail ps u → length_with tail t ≤ length_with tail u
  pub first : (u : List Edge) → RunTreeWith tail ps u → length_with tail u ≡ length_with tail t → First (BeforeWith tail) t u

-- The order of runs is the one without tails, and so is THE tree.
pub record Tails (tail : ℕ) : Type 0 where
  pub order : (r s : Edge) → before_with tail r s ≡ before r s
  pub tree : (ps : List Point) → Sorted Lower ps → (t : List Edge) → TheTreeWith tail ps t ↔ TheTree ps t

-- A call that is not the one that sets the tail.
abbrev pub SetsNoTail : Call → Type 0
SetsNoTail k = (tail : ℕ) → ¬ (k ≡ set_tail tail)

-- What calls on the contents c do to the tail (SPEC 4.8).
pub record TailsFollow (c : Contents) : Type 0 where
  -- setting it keeps the points, and so the runs, and the kinds; the tail is the one given where the call is done
  pub points : (tail : ℕ) → (step c (set_tail tail)).next.state ≡ c.state
  pub kinds : (tail : ℕ) → (step c (set_tail tail)).next.kinds ≡ c.kinds
  pub set : (tail : ℕ) → (step c (set_tail tail)).reply ≡ done → (step c (set_tail tail)).next.tail ≡ tail
  -- a call that is refused keeps it, and so does every call but this one
  pub turned_down : (k : Call) (n : ℕ) → (step c k).reply ≡ refused n → (step c k).next.tail ≡ c.tail
  pub besides : (k : Call) → SetsNoTail k → (step c k).next.tail ≡ c.tail
