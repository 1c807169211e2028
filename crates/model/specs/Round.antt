-- The round (SPEC 4.4) and the run to the end (SPEC 4.5), with tails of some length.
use Rattle.std.specs.Prelude.{not, List, [], ◌∷◌, ◌++◌, map, ℕ, zero, suc, ◌-◌, ℤ, pos}
use Rattle.std.proofs.Math.Option.{Option, none, some}
use Rattle.std.proofs.Math.IntN.{sub_ℕ}
use Rattle.std.specs.Int.Signed.{lt_z}
use Rattle.arrays.specs.Test.{if}
use Rattle.plane.specs.Point.{Point, lower}
use Rattle.arrays.specs.Set.{put, has, set_of, passing}
use Rattle.model.specs.Tail.{tree_length_with}
use Rattle.model.specs.State.{State, points, prune}

-- The points of one column: this x with each y, lower first.
unfoldable pub column : ℤ → List ℤ → List Point
column x ys = map (λ (y : ℤ). record { x = x; y = y }) ys

-- Every crossing of an x with a y, lower first where both lists rise.
unfoldable pub crossings : List ℤ → List ℤ → List Point
crossings [] ys = []
crossings (x ∷ xs) ys = column x ys ++ crossings xs ys

-- The members of l that are not in ps.
unfoldable pub not_held : List Point → List Point → List Point
not_held ps l = passing (λ (c : Point). not (has lower c ps)) l

-- The x of the points, least first, and the y.
abbrev pub xs_of : List Point → List ℤ
xs_of ps = set_of lt_z (map (λ (p : Point). p.x) ps)

abbrev pub ys_of : List Point → List ℤ
ys_of ps = set_of lt_z (map (λ (p : Point). p.y) ps)

-- The candidates (SPEC 4.4), lower first: where the x of a point held crosses the y of one, if no point is held there.
unfoldable pub candidates : List Point → List Point
candidates ps = not_held ps (crossings (xs_of ps) (ys_of ps))

-- The saving of a candidate c (SPEC 4.4): `now`, the tree's length, less the length with c. It can be below 0.
unfoldable pub saving : ℕ → ℕ → List Point → Point → ℤ
saving tail now ps c = sub_ℕ now (tree_length_with tail (put lower c ps))

-- Of the candidates, the lowest of greatest saving above `top`, else what was found before.
unfoldable pub best_above : ℕ → ℕ → List Point → ℤ → Option Point → List Point → Option Point
best_above tail now ps top found [] = found
best_above tail now ps top found (c ∷ cs) =
    let v = saving tail now ps c in
    if (lt_z top v) (λ _. best_above tail now ps v (some c) cs) (λ _. best_above tail now ps top found cs)

-- The candidate that a round chooses (SPEC 4.4): the lowest of those with the greatest saving; none where no saving is above 0.
unfoldable pub best : ℕ → List Point → Option Point
best tail ps = best_above tail (tree_length_with tail ps) ps (pos 0) none (candidates ps)

-- The answer of a round (SPEC 4.4): finished, or the new tap and the fall in length.
pub data RoundAnswer : Type 0 where
  finished : RoundAnswer
  tap : Point → ℕ → RoundAnswer

-- What a round hands back: the next state, and its answer.
pub record RoundResult : Type 0 where
  pub next : State
  pub answer : RoundAnswer

-- The state's points with one more Steiner point.
abbrev pub with_steiner : Point → State → State
with_steiner c s = record { pins = s.pins; steiner = put lower c s.steiner }

-- What a round does (SPEC 4.4) with the candidate that it chooses: none, and it is finished and the state stays; else the candidate joins the taps, a
-- sweep follows, and the answer names it with the fall in length over both.
abbrev pub round_with : ℕ → State → Option Point → RoundResult
round_with tail s none = record { next = s; answer = finished }
round_with tail s (some c) =
    let s' = prune (with_steiner c s) in
    record { next = s'; answer = tap c (tree_length_with tail (points s) - tree_length_with tail (points s')) }

-- A round.
unfoldable pub round : ℕ → State → RoundResult
round tail s = round_with tail s (best tail (points s))

-- Where a run to the end comes to, and how many of its rounds added a tap.
pub record Ended : Type 0 where
  pub final : State
  pub count : ℕ

-- At most k rounds that add a tap, up to the first that is finished; `count` is how many added one.
unfoldable pub rounds_from : ℕ → ℕ → State → Ended
rounds_from tail zero s = record { final = s; count = 0 }
rounds_from tail (suc k) s =
    let r = round tail s in
    elim r.answer [
      | finished ↦ record { final = s; count = 0 }
      | tap c fall ↦ let e = rounds_from tail k r.next in record { final = e.final; count = suc e.count }
    ]

-- The run to the end (SPEC 4.5). No more rounds can add a tap than the tree has centimetres.
unfoldable pub finish : ℕ → State → Ended
finish tail s = rounds_from tail (tree_length_with tail (points s)) s
