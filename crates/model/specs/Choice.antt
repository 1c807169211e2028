-- The choices of SPEC 4.1 and 4.4 as relations, beside the definitions that work them out: `Chosen` beside `best`, `SweptTo` beside
-- `prune`. Each fits one result alone (proofs/Choice.antt, proofs/Sweep.antt), whatever the way to find it.
use Rattle.std.specs.Prelude.{◌≡◌, ◌⊎◌, ℕ, ◌≤◌, T, ℤ, pos}
use mathlib.Core.List.{List, Memᴰ}
use Rattle.std.specs.Int.Signed.{lt_z}
use Rattle.plane.specs.Point.{Point, Lower}
use Rattle.plane.specs.Edge.{Edge}
use Rattle.model.specs.Tree.{edges_at, TheTree}
use Rattle.model.specs.Tail.{tree_length_with}
use Rattle.model.specs.State.{State, points, without}
use Rattle.model.specs.Round.{saving}

-- A candidate (SPEC 4.4): on the x of a held point and on the y of a held point, and not held itself.
pub record Candidate (ps : List Point) (c : Point) : Type 0 where
  pub on_x : (a : Point) × Memᴰ a ps × (c.x ≡ a.x)
  pub on_y : (b : Point) × Memᴰ b ps × (c.y ≡ b.y)
  pub free : ¬ Memᴰ c ps

-- What c saves of the tree of ps (SPEC 4.4).
abbrev pub saved : ℕ → List Point → Point → ℤ
saved tail ps c = saving tail (tree_length_with tail ps) ps c

-- The candidate that a round adds (SPEC 4.4): it saves something, none saves more, and it is lower than any other that saves as much.
pub record Chosen (tail : ℕ) (ps : List Point) (c : Point) : Type 0 where
  pub candidate : Candidate ps c
  pub saves : T (lt_z (pos 0) (saved tail ps c))
  pub most : (d : Point) → Candidate ps d → ¬ T (lt_z (saved tail ps c) (saved tail ps d))
  pub lowest : (d : Point) → Candidate ps d → saved tail ps d ≡ saved tail ps c → (d ≡ c) ⊎ Lower c d

-- The lowest weak tap (SPEC 4.1): of the points l, q has at most two edges in t, and every other such point is higher.
pub record LowestWeak (t : List Edge) (l : List Point) (q : Point) : Type 0 where
  pub held : Memᴰ q l
  pub weak : edges_at q t ≤ 2
  pub lowest : (p : Point) → Memᴰ p l → edges_at p t ≤ 2 → (p ≡ q) ⊎ Lower q p

-- A sweep (SPEC 4.1) leads from s to r. It ends where every Steiner point has three edges or more in THE tree of the points; else it takes
-- out the lowest that has fewer, and goes on from the other points.
pub data SweptTo : State → State → Type 0 where
  kept : {s : State} (t : List Edge) → TheTree (points s) t → ((q : Point) → Memᴰ q s.steiner → 3 ≤ edges_at q t) → SweptTo s s
  taken : {s r : State} (t : List Edge) (q : Point) → TheTree (points s) t → LowestWeak t s.steiner q → SweptTo (without q s) r → SweptTo s r
