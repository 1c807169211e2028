-- One claim about whole lists of calls on the contents of a deck (SPEC 6). Demand 3 rests on it.
use Rattle.std.specs.Prelude.{◌≡◌, ◌↔◌, ℕ, suc, ◌≤◌, length}
use mathlib.Core.List.{List, ◌∷◌, Memᴰ}
use Rattle.spanning.specs.Graph.{Tree}
use Rattle.plane.specs.Point.{Point, lower}
use Rattle.plane.specs.Edge.{Edge, planar}
use Rattle.arrays.specs.Set.{put}
use Rattle.model.specs.Tail.{length_with, tree_length_with}
use Rattle.model.specs.State.{State, points}
use Rattle.model.specs.Contents.{Contents, empty_contents, ValidContents}
use Rattle.model.specs.Round.{finished, tap, candidates, round, finish}
use Rattle.model.specs.Call.{Call, contents_after}
use Rattle.model.specs.Question.{tree_of, length_of_state}
use Rattle.model.specs.File.{deck, read_file}

-- What a list of calls starts from (SPEC 6.1): a deck that holds nothing, or that of a file that is taken.
pub data StartContents : Contents → Type 0 where
  fresh : StartContents empty_contents
  file : (b : List ℕ) {c : Contents} → read_file b ≡ deck c → StartContents c

-- Rounds alone lead from s to r, where the round is finished (SPEC 6.4). k of them add a tap, and one that its own sweep takes out counts.
pub data RoundsTo (tail : ℕ) : State → ℕ → State → Type 0 where
  ended : {s : State} → (round tail s).answer ≡ finished → RoundsTo tail s 0 s
  added : {s r : State} {k : ℕ} {c : Point} {fall : ℕ} → (round tail s).answer ≡ tap c fall → RoundsTo tail (round tail s).next k r
      → RoundsTo tail s (suc k) r

-- With q as one more point there is no tree that is shorter, with tails, than the tree of s (SPEC 6.3).
abbrev pub NoShorter : ℕ → State → Point → Type 0
NoShorter tail s q = (t : List Edge) → Tree planar (q ∷ points s) t → length_of_state tail s ≤ length_with tail t

-- The most points held between calls (SPEC 4.7), and the longest tree with one point more, in centimetres: 126 runs with the longest tails.
abbrev pub most_points : ℕ
most_points = 126

abbrev pub longest_tree : ℕ
longest_tree = 15246000

-- What holds of a state that a list of calls leads to, with tails of some length.
pub record SessionState (tail : ℕ) (s : State) : Type 0 where
  -- its tree is a tree over its points, and every tree over them is at least as long
  pub tree : Tree planar (points s) (tree_of s)
  pub least : (t : List Edge) → Tree planar (points s) t → length_with tail (tree_of s) ≤ length_with tail t
  -- the round is finished exactly if no one more point anywhere on the integer plane would shorten the tree
  pub finish_exact : ((round tail s).answer ≡ finished) ↔ ((q : Point) → ¬ Memᴰ q (points s) → NoShorter tail s q)
  -- rounds alone come to finished within as many adding rounds as the tree has centimetres; the run to the end answers their number and their state
  pub rounds_end : RoundsTo tail s (finish tail s).count (finish tail s).final
  pub rounds-few : (finish tail s).count ≤ length_of_state tail s
  -- at most 126 points between calls and 127 during a round, and every length fits
  pub points-few : length (points s) ≤ most_points
  pub round-few : (c : Point) → Memᴰ c (candidates (points s)) → length (put lower c (points s)) ≤ suc most_points
  pub length-fits : length_of_state tail s ≤ longest_tree
  pub round-fits : (c : Point) → Memᴰ c (candidates (points s)) → tree_length_with tail (put lower c (points s)) ≤ longest_tree

-- What holds of contents that a list of calls leads to: they are valid, and their state is as said.
pub record SessionContents (c : Contents) : Type 0 where
  pub valid : ValidContents c
  pub state : SessionState c.tail c.state

-- The claim (SPEC 6.2 to 6.4): after any list of calls, refused ones too, from an empty deck or an accepted file.
abbrev pub Sessions : Type 0
Sessions = (c : Contents) → StartContents c → (calls : List Call) → SessionContents (contents_after c calls)
